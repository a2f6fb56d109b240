-- Areas that are cut to a span.
use Rattle.std.proofs.Common.{arith, rules, refl, sym, ap, ◌∙◌, ◌≡◌, ℕ, ◌+◌, ◌<◌, nat_le, ℤ, pos, ◌+ℤ◌, ◌-ℤ◌, ◌≤ℤ◌, ◌<ℤ◌, int_lt, Bool, true, false, List, [], ◌∷◌, ◌++◌, length, take, get_or, append_assoc, if◌then◌else◌}
use Rattle.std.specs.Prelude.{int_le}
use Rattle.std.specs.Int.{int_max, int_min}
use Rattle.std.proofs.lemmas.Int.{ints, int_max_is, int_min_is}
use Rattle.std.proofs.lemmas.Bool.{and_parts, and_from}
use Rattle.std.proofs.lemmas.List.{append-nil, take_more}
use Rattle.std.proofs.lemmas.List.Folds.{list_all-append}
use Rattle.lunit.specs.Areas.{spans_overlap}
use Rattle.lunit.specs.declared.geometry.Span.{Span}
use Rattle.part_rules.specs.LineNames.{NamedSpan, cut_area, cut_areas}
use Rattle.line_names.specs.Tables.{is_area, are_areas, IsWithinLines}

from_test : (a b : ℤ) → int_lt a b ≡ true → a <ℤ b
from_test a b h = search rules

to_test : (a b : ℤ) → a <ℤ b → int_lt a b ≡ true
to_test a b h = search rules

to_test_le : (a b : ℤ) → a ≤ℤ b → int_le a b ≡ true
to_test_le a b h = search rules

-- what two spans have in common lies in the first one
pub record IsCommon (span other : Span) : Type 0 where
  pub first : span.start ≤ℤ int_max span.start other.start
  pub some : int_max span.start other.start <ℤ int_min span.end other.end
  pub last : int_min span.end other.end ≤ℤ span.end

pub is_common : (span other : Span) → spans_overlap span other ≡ true → IsCommon span other
is_common span other h =
    record {
      first = omega (arith, ints, int_max_is span.start other.start);
      some = from_test (int_max span.start other.start) (int_min span.end other.end) h;
      last = omega (arith, ints, int_min_is span.end other.end);
    }

pub start_order : (span other : Span) → spans_overlap span other ≡ true → span.start ≤ℤ int_max span.start other.start
start_order span other h = (is_common span other h).first

pub end_order : (span other : Span) → spans_overlap span other ≡ true → span.start ≤ℤ int_min span.end other.end
end_order span other h = let k : IsCommon span other = is_common span other h in omega (arith, ints, k.first, k.some)

pub start_near : (span other : Span) → IsWithinLines span → spans_overlap span other ≡ true → int_max span.start other.start ≤ℤ (span.start +ℤ pos 100000)
start_near span other w h = let k : IsCommon span other = is_common span other h in omega (arith, ints, w.low, w.high, k.some, k.last)

pub end_near : (span other : Span) → IsWithinLines span → int_min span.end other.end ≤ℤ (span.start +ℤ pos 100000)
end_near span other w = omega (arith, ints, w.low, w.high, int_min_is span.end other.end)

pub ruleset common_lines = (start_order, end_order, start_near, end_near)

-- ---- one area after another

cut_areas-append : (span : Span) (xs ys : List NamedSpan) → cut_areas span (xs ++ ys) ≡ cut_areas span xs ++ cut_areas span ys
cut_areas-append span [] ys = refl
cut_areas-append span (x ∷ xs) ys = ap (λ cut. cut_area span x ++ cut) (cut_areas-append span xs ys) ∙ sym (append_assoc (cut_area span x) (cut_areas span xs) (cut_areas span ys))

pub cut_next : (span : Span) (old now areas : List NamedSpan) (i : ℕ) (area : NamedSpan) → i < length areas → area ≡ get_or areas i area → now ≡ old ++ cut_areas span (take i areas) → now ++ cut_area span area ≡ old ++ cut_areas span (take (i + 1) areas)
cut_next span old now areas i area h e f =
    ap (λ xs. xs ++ cut_area span area) f
    ∙ append_assoc old (cut_areas span (take i areas)) (cut_area span area)
    ∙ ap (λ a. old ++ (cut_areas span (take i areas) ++ cut_area span a)) e
    ∙ ap (λ xs. old ++ (cut_areas span (take i areas) ++ xs)) (sym (append-nil (cut_area span (get_or areas i area))))
    ∙ ap (λ xs. old ++ xs) (sym (cut_areas-append span (take i areas) (get_or areas i area ∷ [])))
    ∙ ap (λ xs. old ++ cut_areas span xs) (sym (take_more areas i area h))

-- ---- what is cut lies in the tracks of the span

cut_fits : (tracks most : ℕ) (span : Span) (area : NamedSpan) → span.end ≡ span.start +ℤ pos tracks → is_area most area ≡ true → spans_overlap span area.1 ≡ true →
    is_area tracks (area.0, record { start = int_max span.start area.1.start -ℤ span.start; end = int_min span.end area.1.end -ℤ span.start }) ≡ true
cut_fits tracks most span area e a h =
    let k : IsCommon span area.1 = is_common span area.1 h in
    and_from _ _ (and_parts (nat_le (length area.0) 58) _ a).0
    (and_from _ _ (to_test_le (pos 0) (int_max span.start area.1.start -ℤ span.start) (omega (arith, ints, k.first)))
    (and_from _ _ (to_test (int_max span.start area.1.start -ℤ span.start) (int_min span.end area.1.end -ℤ span.start) (omega (arith, ints, k.some)))
    (to_test_le (int_min span.end area.1.end -ℤ span.start) (pos tracks) (omega (arith, ints, k.last, e)))))

cut_area_fits : (tracks most : ℕ) (span : Span) (area : NamedSpan) (b : Bool) → b ≡ spans_overlap span area.1 → span.end ≡ span.start +ℤ pos tracks → is_area most area ≡ true →
    are_areas tracks (if b then (area.0, record { start = int_max span.start area.1.start -ℤ span.start; end = int_min span.end area.1.end -ℤ span.start }) ∷ [] else []) ≡ true
cut_area_fits tracks most span area true h e a = and_from _ _ (cut_fits tracks most span area e a (sym h)) refl
cut_area_fits tracks most span area false h e a = refl

pub cut_areas_fit : (tracks most : ℕ) (span : Span) (areas : List NamedSpan) → span.end ≡ span.start +ℤ pos tracks → are_areas most areas ≡ true → are_areas tracks (cut_areas span areas) ≡ true
cut_areas_fit tracks most span [] e h = refl
cut_areas_fit tracks most span (a ∷ areas) e h =
    let parts : (is_area most a ≡ true) × (are_areas most areas ≡ true) = and_parts (is_area most a) (are_areas most areas) h in
    list_all-append (is_area tracks) (cut_area span a) (cut_areas span areas) ∙ and_from _ _ (cut_area_fits tracks most span a (spans_overlap span a.1) refl e parts.0) (cut_areas_fit tracks most span areas e parts.1)

-- all areas of a subgrid lie in its tracks
pub all_fit : (tracks own most : ℕ) (whole span : Span) (areas taken all : List NamedSpan) → whole.end ≡ whole.start +ℤ pos tracks → span.end ≡ span.start +ℤ pos tracks → are_areas own areas ≡ true → are_areas most taken ≡ true → all ≡ cut_areas whole areas ++ cut_areas span taken →
    are_areas tracks all ≡ true
all_fit tracks own most whole span areas taken all e f g h is =
    ap (λ xs. are_areas tracks xs) is ∙ list_all-append (is_area tracks) (cut_areas whole areas) (cut_areas span taken) ∙ and_from _ _ (cut_areas_fit tracks own whole areas e g) (cut_areas_fit tracks most span taken f h)
