-- The names of edges that the lines of a subgrid have from its parent.
use Rattle.std.proofs.Common.{arith, rules, refl, sym, ap, ◌∙◌, ◌≡◌, ℕ, ◌+◌, ◌<◌, ◌≤◌, nat_le, ℤ, pos, negsuc, ◌+ℤ◌, ◌-ℤ◌, ◌≤ℤ◌, ◌<ℤ◌, ◌⊎◌, inl, inr, int_lt, Bool, true, false, true≢false, ◌||◌, ◌&&◌, List, [], ◌∷◌, ◌++◌, length, take, get_or, append_assoc, if◌then◌else◌}
use Rattle.std.specs.Prelude.{int_le}
use Rattle.std.specs.Int.{int_max, int_min}
use Rattle.std.specs.Ordering.{int_eq}
use Rattle.std.specs.Str.{bytes_eq}
use Rattle.std.proofs.lemmas.Int.{ints, int_max_is, int_min_is}
use Rattle.std.proofs.lemmas.Bool.{and_parts, and_from, cases_lt}
use Rattle.std.proofs.lemmas.List.{append-nil, take_more}
use Rattle.std.proofs.lemmas.List.Folds.{list_all-append, list_any-append}
use Rattle.lunit.specs.Areas.{spans_overlap}
use Rattle.lunit.specs.Names.{edge_of}
use Rattle.lunit.specs.declared.geometry.Span.{Span}
use Rattle.part_rules.specs.LineNames.{NamedSpan, area_names, cut_area, cut_areas, holds_name, names_by_areas}
use Rattle.line_names.specs.Levels.{names_in}
use Rattle.line_names.specs.Parts.{lies_in, cut_part, cut_parts}
use Rattle.line_names.specs.Tables.{is_area, are_areas}
use Rattle.line_names.proofs.Cut.{cut_areas_fit}
use Rattle.line_names.proofs.Passing.{eq_same, eq_from, eq_not}

lt_from : (a b : ℤ) → int_lt a b ≡ true → a <ℤ b
lt_from a b h = search rules

le_from : (a b : ℤ) → int_le a b ≡ true → a ≤ℤ b
le_from a b h = search rules

-- ---- one area after another

pub part_none : (span : Span) (area : NamedSpan) (out : List NamedSpan) → lies_in span area.1 ≡ true → out ≡ out ++ cut_part span area
part_none span area out h = sym (ap (λ b. out ++ (if b then [] else cut_area span area)) h ∙ append-nil out)

pub part_some : (span : Span) (area : NamedSpan) → lies_in span area.1 ≡ false → cut_area span area ≡ cut_part span area
part_some span area h = sym (ap (λ b. if b then [] else cut_area span area) h)

cut_parts-append : (span : Span) (xs ys : List NamedSpan) → cut_parts span (xs ++ ys) ≡ cut_parts span xs ++ cut_parts span ys
cut_parts-append span [] ys = refl
cut_parts-append span (x ∷ xs) ys = ap (λ cut. cut_part span x ++ cut) (cut_parts-append span xs ys) ∙ sym (append_assoc (cut_part span x) (cut_parts span xs) (cut_parts span ys))

pub part_next : (span : Span) (old now areas : List NamedSpan) (i : ℕ) (area : NamedSpan) → i < length areas → area ≡ get_or areas i area → now ≡ old ++ cut_parts span (take i areas) → now ++ cut_part span area ≡ old ++ cut_parts span (take (i + 1) areas)
part_next span old now areas i area h e f =
    ap (λ xs. xs ++ cut_part span area) f
    ∙ append_assoc old (cut_parts span (take i areas)) (cut_part span area)
    ∙ ap (λ a. old ++ (cut_parts span (take i areas) ++ cut_part span a)) e
    ∙ ap (λ xs. old ++ (cut_parts span (take i areas) ++ xs)) (sym (append-nil (cut_part span (get_or areas i area))))
    ∙ ap (λ xs. old ++ xs) (sym (cut_parts-append span (take i areas) (get_or areas i area ∷ [])))
    ∙ ap (λ xs. old ++ cut_parts span xs) (sym (take_more areas i area h))

-- ---- what is cut lies in the tracks of the span

part_fits : (tracks : ℕ) (span : Span) (area : NamedSpan) (b : Bool) → are_areas tracks (cut_area span area) ≡ true → are_areas tracks (if b then [] else cut_area span area) ≡ true
part_fits tracks span area true h = refl
part_fits tracks span area false h = h

one_fits : (tracks most : ℕ) (span : Span) (area : NamedSpan) → span.end ≡ span.start +ℤ pos tracks → is_area most area ≡ true → are_areas tracks (cut_area span area) ≡ true
one_fits tracks most span area e h = ap (λ xs. are_areas tracks xs) (sym (append-nil (cut_area span area))) ∙ cut_areas_fit tracks most span (area ∷ []) e (and_from _ _ h refl)

pub parts_fit : (tracks most : ℕ) (span : Span) (areas : List NamedSpan) → span.end ≡ span.start +ℤ pos tracks → are_areas most areas ≡ true → are_areas tracks (cut_parts span areas) ≡ true
parts_fit tracks most span [] e h = refl
parts_fit tracks most span (a ∷ areas) e h =
    let parts : (is_area most a ≡ true) × (are_areas most areas ≡ true) = and_parts (is_area most a) (are_areas most areas) h in
    list_all-append (is_area tracks) (cut_part span a) (cut_parts span areas) ∙ and_from _ _ (part_fits tracks span a (lies_in span a.1) (one_fits tracks most span a e parts.0)) (parts_fit tracks most span areas e parts.1)

-- the areas that a subgrid adds lie in its tracks
pub added_fit : (tracks own most : ℕ) (whole span : Span) (areas taken all : List NamedSpan) → whole.end ≡ whole.start +ℤ pos tracks → span.end ≡ span.start +ℤ pos tracks → are_areas own areas ≡ true → are_areas most taken ≡ true → all ≡ cut_areas whole areas ++ cut_parts span taken →
    are_areas tracks all ≡ true
added_fit tracks own most whole span areas taken all e f g h is =
    ap (λ xs. are_areas tracks xs) is ∙ list_all-append (is_area tracks) (cut_areas whole areas) (cut_parts span taken) ∙ and_from _ _ (cut_areas_fit tracks own whole areas e g) (parts_fit tracks most span taken f h)

-- ---- names of lists of areas

names-append : (line : ℤ) (xs ys : List NamedSpan) → names_by_areas line (xs ++ ys) ≡ names_by_areas line xs ++ names_by_areas line ys
names-append line [] ys = refl
names-append line (x ∷ xs) ys = ap (λ names. area_names line x ++ names) (names-append line xs ys) ∙ sym (append_assoc (area_names line x) (names_by_areas line xs) (names_by_areas line ys))

pub holds-append : (name : List ℕ) (xs ys : List (List ℕ)) → holds_name name (xs ++ ys) ≡ (holds_name name xs || holds_name name ys)
holds-append name xs ys = list_any-append (λ held. bytes_eq held name) xs ys

held-append : (name : List ℕ) (line : ℤ) (xs ys : List NamedSpan) → holds_name name (names_by_areas line (xs ++ ys)) ≡ (holds_name name (names_by_areas line xs) || holds_name name (names_by_areas line ys))
held-append name line xs ys = ap (λ ns. holds_name name ns) (names-append line xs ys) ∙ holds-append name (names_by_areas line xs) (names_by_areas line ys)

-- ---- an area that is taken over whole

moved_eq : (x s l : ℤ) → int_eq (x -ℤ s) l ≡ int_eq x (s +ℤ l)
moved_eq x s l = by (int_eq x (s +ℤ l)) refl
  where
    by : (t : Bool) → int_eq x (s +ℤ l) ≡ t → int_eq (x -ℤ s) l ≡ int_eq x (s +ℤ l)
    by true e =
        let same : x ≡ s +ℤ l = eq_from x (s +ℤ l) e in
        let at : x -ℤ s ≡ l = omega (arith, ints, same) in
        ap (λ z. int_eq z l) at ∙ eq_same l ∙ sym e
    by false e = eq_not (x -ℤ s) l (λ at. let same : x ≡ s +ℤ l = omega (arith, ints, at) in true≢false (sym (ap (λ z. int_eq z (s +ℤ l)) same ∙ eq_same (s +ℤ l)) ∙ e)) ∙ sym e

-- its names on a line are those on the line of the parent
whole_names : (span : Span) (a : NamedSpan) (line : ℤ) → lies_in span a.1 ≡ true → area_names line (a.0, record { start = int_max span.start a.1.start -ℤ span.start; end = int_min span.end a.1.end -ℤ span.start }) ≡ area_names (span.start +ℤ line) a
whole_names span a line h =
    let parts : (int_le span.start a.1.start ≡ true) × (int_le a.1.end span.end ≡ true) = and_parts (int_le span.start a.1.start) (int_le a.1.end span.end) h in
    let first : int_max span.start a.1.start ≡ a.1.start = omega (arith, ints, int_max_is span.start a.1.start, le_from span.start a.1.start parts.0) in
    let last : int_min span.end a.1.end ≡ a.1.end = omega (arith, ints, int_min_is span.end a.1.end, le_from a.1.end span.end parts.1) in
    ap (λ z. (if int_eq (z -ℤ span.start) line then edge_of false a.0 ∷ [] else []) ++ (if int_eq (int_min span.end a.1.end -ℤ span.start) line then edge_of true a.0 ∷ [] else [])) first
    ∙ ap (λ z. (if int_eq (a.1.start -ℤ span.start) line then edge_of false a.0 ∷ [] else []) ++ (if int_eq (z -ℤ span.start) line then edge_of true a.0 ∷ [] else [])) last
    ∙ ap (λ b. (if b then edge_of false a.0 ∷ [] else []) ++ (if int_eq (a.1.end -ℤ span.start) line then edge_of true a.0 ∷ [] else [])) (moved_eq a.1.start span.start line)
    ∙ ap (λ b. (if int_eq a.1.start (span.start +ℤ line) then edge_of false a.0 ∷ [] else []) ++ (if b then edge_of true a.0 ∷ [] else [])) (moved_eq a.1.end span.start line)

whole_held : (name : List ℕ) (line : ℤ) (span : Span) (a : NamedSpan) (b : Bool) → lies_in span a.1 ≡ true → holds_name name (names_by_areas line (if b then (a.0, record { start = int_max span.start a.1.start -ℤ span.start; end = int_min span.end a.1.end -ℤ span.start }) ∷ [] else [])) ≡ true →
    holds_name name (area_names (span.start +ℤ line) a) ≡ true
whole_held name line span a true h g = sym (ap (λ ns. holds_name name ns) (append-nil (area_names line (a.0, record { start = int_max span.start a.1.start -ℤ span.start; end = int_min span.end a.1.end -ℤ span.start })) ∙ whole_names span a line h)) ∙ g
whole_held name line span a false h g = absurd (true≢false (sym g))

-- ---- the names of all areas are there if those of the parts are added

pub first_holds : (a b : Bool) → a ≡ true → (a || b) ≡ true
first_holds true b h = refl
first_holds false b h = absurd (true≢false (sym h))

pub second_holds : (a b : Bool) → b ≡ true → (a || b) ≡ true
second_holds true b h = refl
second_holds false b h = h

in_front : (o p q i : Bool) → (p || i) ≡ (q || i) → ((o || p) || i) ≡ ((o || q) || i)
in_front true p q i e = refl
in_front false p q i e = e

in_back : (c p q i : Bool) → (c ≡ true → i ≡ true) → (p || i) ≡ (q || i) → (p || i) ≡ ((c || q) || i)
in_back true p q i f e = second_holds p i (f refl)
in_back false p q i f e = e

parts_hold : (name : List ℕ) (line : ℤ) (span : Span) (areas : List NamedSpan) (held : Bool) → (holds_name name (names_by_areas (span.start +ℤ line) areas) ≡ true → held ≡ true) →
    (holds_name name (names_by_areas line (cut_parts span areas)) || held) ≡ (holds_name name (names_by_areas line (cut_areas span areas)) || held)
parts_hold name line span [] held f = refl
parts_hold name line span (a ∷ areas) held f =
    ap (λ b. b || held) (held-append name line (cut_part span a) (cut_parts span areas))
    ∙ by (lies_in span a.1) refl (parts_hold name line span areas held (λ h. f (above ∙ second_holds (holds_name name (area_names (span.start +ℤ line) a)) (holds_name name (names_by_areas (span.start +ℤ line) areas)) h)))
    ∙ ap (λ b. b || held) (sym (held-append name line (cut_area span a) (cut_areas span areas)))
  where
    parts : Bool
    parts = holds_name name (names_by_areas line (cut_parts span areas))

    all : Bool
    all = holds_name name (names_by_areas line (cut_areas span areas))

    whole : Bool
    whole = holds_name name (names_by_areas line (cut_area span a))

    above : holds_name name (names_by_areas (span.start +ℤ line) (a ∷ areas)) ≡ (holds_name name (area_names (span.start +ℤ line) a) || holds_name name (names_by_areas (span.start +ℤ line) areas))
    above = holds-append name (area_names (span.start +ℤ line) a) (names_by_areas (span.start +ℤ line) areas)

    by : (t : Bool) → lies_in span a.1 ≡ t → (parts || held) ≡ (all || held) → ((holds_name name (names_by_areas line (if t then [] else cut_area span a)) || parts) || held) ≡ ((whole || all) || held)
    by true e rest =
        in_back whole parts all held
        (λ h. f (above ∙ first_holds (holds_name name (area_names (span.start +ℤ line) a)) (holds_name name (names_by_areas (span.start +ℤ line) areas)) (whole_held name line span a (spans_overlap span a.1) e h)))
        rest
    by false e rest = in_front whole parts all held rest

-- areas whose names, beside those of the lines from this one on, are those of all these areas
abbrev pub AddAll : List (List (List ℕ)) → ℤ → List NamedSpan → List NamedSpan → Type 0
AddAll lines start added all = (name : List ℕ) (line : ℤ) → (holds_name name (names_by_areas line added) || holds_name name (names_in lines (start +ℤ line))) ≡ (holds_name name (names_by_areas line all) || holds_name name (names_in lines (start +ℤ line)))

-- lines that have the names of these areas
abbrev pub HaveNames : List (List (List ℕ)) → List NamedSpan → Type 0
HaveNames lines areas = (name : List ℕ) (line : ℤ) → holds_name name (names_by_areas line areas) ≡ true → holds_name name (names_in lines line) ≡ true

pub parts_add_all : (lines : List (List (List ℕ))) (span : Span) (own areas added all : List NamedSpan) → HaveNames lines areas → added ≡ own ++ cut_parts span areas → all ≡ own ++ cut_areas span areas → AddAll lines span.start added all
parts_add_all lines span own areas added all f e g =
    λ name line.
    let held : Bool = holds_name name (names_in lines (span.start +ℤ line)) in
    ap (λ xs. holds_name name (names_by_areas line xs) || held) e
    ∙ ap (λ b. b || held) (held-append name line own (cut_parts span areas))
    ∙ in_front (holds_name name (names_by_areas line own)) (holds_name name (names_by_areas line (cut_parts span areas))) (holds_name name (names_by_areas line (cut_areas span areas))) held (parts_hold name line span areas held (f name (span.start +ℤ line)))
    ∙ ap (λ b. b || held) (sym (held-append name line own (cut_areas span areas)))
    ∙ ap (λ xs. holds_name name (names_by_areas line xs) || held) (sym g)

-- names beside others
pub added_names : (name : List ℕ) (ss ad ar ih : List (List ℕ)) → (holds_name name ad || holds_name name ih) ≡ (holds_name name ar || holds_name name ih) → holds_name name (ss ++ ad ++ ih) ≡ holds_name name (ss ++ ar ++ ih)
added_names name ss ad ar ih e =
    holds-append name (ss ++ ad) ih
    ∙ ap (λ b. b || holds_name name ih) (holds-append name ss ad)
    ∙ in_front (holds_name name ss) (holds_name name ad) (holds_name name ar) (holds_name name ih) e
    ∙ ap (λ b. b || holds_name name ih) (sym (holds-append name ss ar))
    ∙ sym (holds-append name (ss ++ ar) ih)

-- ---- lines that have the names of areas

-- areas give no names to lines beyond their tracks
none_past : (tracks : ℕ) (areas : List NamedSpan) (line : ℤ) → are_areas tracks areas ≡ true → (line <ℤ pos 0) ⊎ (pos tracks <ℤ line) → names_by_areas line areas ≡ []
none_past tracks [] line h o = refl
none_past tracks (a ∷ areas) line h o =
    let parts : (is_area tracks a ≡ true) × (are_areas tracks areas ≡ true) = and_parts (is_area tracks a) (are_areas tracks areas) h in
    ap (λ b. ((if b then edge_of false a.0 ∷ [] else []) ++ (if int_eq a.1.end line then edge_of true a.0 ∷ [] else [])) ++ names_by_areas line areas) (apart parts.0).0
    ∙ ap (λ b. (if b then edge_of true a.0 ∷ [] else []) ++ names_by_areas line areas) (apart parts.0).1
    ∙ none_past tracks areas line parts.1 o
  where
    apart : is_area tracks a ≡ true → (int_eq a.1.start line ≡ false) × (int_eq a.1.end line ≡ false)
    apart k =
        let fits : (nat_le (length a.0) 58 ≡ true) × ((int_le (pos 0) a.1.start && (int_lt a.1.start a.1.end && int_le a.1.end (pos tracks))) ≡ true) = and_parts (nat_le (length a.0) 58) (int_le (pos 0) a.1.start && (int_lt a.1.start a.1.end && int_le a.1.end (pos tracks))) k in
        let low : (int_le (pos 0) a.1.start ≡ true) × ((int_lt a.1.start a.1.end && int_le a.1.end (pos tracks)) ≡ true) = and_parts (int_le (pos 0) a.1.start) (int_lt a.1.start a.1.end && int_le a.1.end (pos tracks)) fits.1 in
        let high : (int_lt a.1.start a.1.end ≡ true) × (int_le a.1.end (pos tracks) ≡ true) = and_parts (int_lt a.1.start a.1.end) (int_le a.1.end (pos tracks)) low.1 in
        by (le_from (pos 0) a.1.start low.0) (lt_from a.1.start a.1.end high.0) (le_from a.1.end (pos tracks) high.1) o
      where
        by : pos 0 ≤ℤ a.1.start → a.1.start <ℤ a.1.end → a.1.end ≤ℤ pos tracks → (line <ℤ pos 0) ⊎ (pos tracks <ℤ line) → (int_eq a.1.start line ≡ false) × (int_eq a.1.end line ≡ false)
        by low some high (inl before) = (eq_not a.1.start line (λ e. omega (arith, ints, e, low, before)), eq_not a.1.end line (λ e. omega (arith, ints, e, low, some, before)))
        by low some high (inr after) = (eq_not a.1.start line (λ e. omega (arith, ints, e, some, high, after)), eq_not a.1.end line (λ e. omega (arith, ints, e, high, after)))

pub have_names : (tracks : ℕ) (areas : List NamedSpan) (lines : List (List (List ℕ))) → are_areas tracks areas ≡ true → ((name : List ℕ) (line : ℕ) → line ≤ tracks → holds_name name (names_by_areas (pos line) areas) ≡ true → holds_name name (get_or lines line []) ≡ true) → HaveNames lines areas
have_names tracks areas lines h f name (negsuc line) g = absurd (true≢false (sym g ∙ ap (λ ns. holds_name name ns) (none_past tracks areas (negsuc line) h (inl (omega (arith, ints))))))
have_names tracks areas lines h f name (pos line) g = by (cases_lt tracks line)
  where
    by : (tracks < line) ⊎ (line ≤ tracks) → holds_name name (get_or lines line []) ≡ true
    by (inl past) = absurd (true≢false (sym g ∙ ap (λ ns. holds_name name ns) (none_past tracks areas (pos line) h (inr (omega (arith, ints, past))))))
    by (inr within) = f name line within g
