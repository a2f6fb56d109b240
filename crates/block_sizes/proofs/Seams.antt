-- Tracks one after another.
use Rattle.std.proofs.Common.{arith, ap, ◌≡◌, ◌∙◌, sym, refl, ℕ, ◌+◌, ◌-◌, ◌^◌, ◌<◌, ℤ, pos, ◌+ℤ◌, ◌-ℤ◌, ◌*ℤ◌, Bool, true, false, List, [], ◌∷◌, ◌++◌, drop, get_or, length}
use Rattle.std.proofs.lemmas.Int.{ints}
use Rattle.std.proofs.lemmas.List.{append_assoc, drop_more}
use Rattle.part_rules.specs.declared.mode.Mode.{Mode}
use Rattle.part_rules.specs.declared.track.Rule.{Rule}
use Rattle.part_rules.specs.Alignment.{content_moved}
use Rattle.part_rules.specs.Lists.{sum_of}
use Rattle.style_types.specs.declared.value.Align.{Align}
use Rattle.tree_rules.specs.Distribution.{edges_from, edges_in, is_safe, mode_of, open_tracks}
use Rattle.block_sizes.specs.declared.edges.Moving.{Moving}
use Rattle.block_sizes.specs.Moving.{first_place, last_place, moved_by}
use Rattle.placing.specs.Spread.{AreBetween, AreSpread, IsBetween}

abbrev Edges : Type 0
Edges = List (ℤ × ℤ)

collapsed-one : (moved : ℕ → ℤ) (gap : ℤ) (k : ℕ) (at : ℤ) (r : Rule) (rules : List Rule) (s : ℤ) (sizes : List ℤ) → r.collapsed ≡ true → edges_from moved gap k at (r ∷ rules) (s ∷ sizes) ≡ (pos 0, pos 0) ∷ edges_from moved gap k at rules sizes
collapsed-one moved gap k at r rules s sizes e = rw e refl

open-one : (moved : ℕ → ℤ) (gap : ℤ) (k : ℕ) (at : ℤ) (r : Rule) (rules : List Rule) (s : ℤ) (sizes : List ℤ) → r.collapsed ≡ false → edges_from moved gap k at (r ∷ rules) (s ∷ sizes) ≡ (at +ℤ moved k, at +ℤ moved k +ℤ s) ∷ edges_from moved gap (k + 1) (at +ℤ s +ℤ gap) rules sizes
open-one moved gap k at r rules s sizes e = rw e refl

both-next : (moved : ℕ → ℤ) (gap : ℤ) (k : ℕ) (at : ℤ) (rules : List Rule) (sizes : List ℤ) (i : ℕ) (r : Rule) (s : ℤ) → i < length rules → length sizes ≡ length rules
    → edges_from moved gap k at (drop i rules) (drop i sizes) ≡ edges_from moved gap k at (get_or rules i r ∷ drop (i + 1) rules) (get_or sizes i s ∷ drop (i + 1) sizes)
both-next moved gap k at rules sizes i r s h e =
    let fits : i < length sizes = omega (arith, h, e) in
    ap (λ (rs : List Rule). edges_from moved gap k at rs (drop i sizes)) (drop_more rules i r h)
    ∙ ap (λ (ss : List ℤ). edges_from moved gap k at (get_or rules i r ∷ drop (i + 1) rules) ss) (drop_more sizes i s fits)

-- a collapsed track more
pub collapsed_more : (moved : ℕ → ℤ) (gap : ℤ) (k : ℕ) (at : ℤ) (rules : List Rule) (sizes : List ℤ) (i : ℕ) (r : Rule) (made all : Edges) → i < length rules → length sizes ≡ length rules → (get_or rules i r).collapsed ≡ true
    → made ++ edges_from moved gap k at (drop i rules) (drop i sizes) ≡ all
    → (made ++ (pos 0, pos 0) ∷ []) ++ edges_from moved gap k at (drop (i + 1) rules) (drop (i + 1) sizes) ≡ all
collapsed_more moved gap k at rules sizes i r made all h n c e =
    let none : ℤ × ℤ = (pos 0, pos 0) in
    append_assoc made (none ∷ []) (edges_from moved gap k at (drop (i + 1) rules) (drop (i + 1) sizes))
    ∙ sym (ap (λ (es : Edges). made ++ es) (both-next moved gap k at rules sizes i r (pos 0) h n ∙ collapsed-one moved gap k at (get_or rules i r) (drop (i + 1) rules) (get_or sizes i (pos 0)) (drop (i + 1) sizes) c))
    ∙ e

-- another track more
pub open_more : (moved : ℕ → ℤ) (gap : ℤ) (k : ℕ) (at : ℤ) (rules : List Rule) (sizes : List ℤ) (i : ℕ) (r : Rule) (s : ℤ) (made all : Edges) → i < length rules → length sizes ≡ length rules → (get_or rules i r).collapsed ≡ false
    → made ++ edges_from moved gap k at (drop i rules) (drop i sizes) ≡ all
    → (made ++ (at +ℤ moved k, at +ℤ moved k +ℤ get_or sizes i s) ∷ []) ++ edges_from moved gap (k + 1) (at +ℤ get_or sizes i s +ℤ gap) (drop (i + 1) rules) (drop (i + 1) sizes) ≡ all
open_more moved gap k at rules sizes i r s made all h n c e =
    let track : ℤ × ℤ = (at +ℤ moved k, at +ℤ moved k +ℤ get_or sizes i s) in
    append_assoc made (track ∷ []) (edges_from moved gap (k + 1) (at +ℤ get_or sizes i s +ℤ gap) (drop (i + 1) rules) (drop (i + 1) sizes))
    ∙ sym (ap (λ (es : Edges). made ++ es) (both-next moved gap k at rules sizes i r s h n ∙ open-one moved gap k at (get_or rules i r) (drop (i + 1) rules) (get_or sizes i s) (drop (i + 1) sizes) c))
    ∙ e

-- another track more, by what the code made
pub open_step : (moved : ℕ → ℤ) (gap : ℤ) (k : ℕ) (at next : ℤ) (rules : List Rule) (sizes : List ℤ) (i : ℕ) (r : Rule) (s : ℤ) (track : ℤ × ℤ) (made all : Edges) → i < length rules → length sizes ≡ length rules → (get_or rules i r).collapsed ≡ false
    → s ≡ get_or sizes i s → track ≡ (at +ℤ moved k, at +ℤ moved k +ℤ s) → next ≡ at +ℤ s +ℤ gap
    → made ++ edges_from moved gap k at (drop i rules) (drop i sizes) ≡ all
    → (made ++ track ∷ []) ++ edges_from moved gap (k + 1) next (drop (i + 1) rules) (drop (i + 1) sizes) ≡ all
open_step moved gap k at next rules sizes i r s track made all h n c is t x e =
    let rest : ℤ → Edges = λ z. edges_from moved gap (k + 1) z (drop (i + 1) rules) (drop (i + 1) sizes) in
    ap (λ (u : ℤ × ℤ). (made ++ u ∷ []) ++ rest next) t
    ∙ ap (λ (z : ℤ). (made ++ (at +ℤ moved k, at +ℤ moved k +ℤ s) ∷ []) ++ rest z) x
    ∙ ap (λ (z : ℤ). (made ++ (at +ℤ moved k, at +ℤ moved k +ℤ z) ∷ []) ++ rest (at +ℤ z +ℤ gap)) is
    ∙ open_more moved gap k at rules sizes i r s made all h n c e

-- one track more between two places
pub between_more : (low high : ℤ) (made : Edges) (e : ℤ × ℤ) → AreBetween low high made → IsBetween low high e → AreBetween low high (made ++ e ∷ [])
between_more low high [] e h k = (k, tt)
between_more low high (x ∷ made) e h k = (h.0, between_more low high made e h.1 k)

-- tracks between the first place and the last one are no further from each other than these
pub spread_places : (edges : Edges) → AreBetween first_place last_place edges → AreSpread (2 ^ 50 + 2 ^ 34) edges
spread_places edges h = record { low = first_place; high = last_place; below = omega (arith, ints); above = omega (arith, ints); width = omega (arith, ints); between = h }

-- the tracks by how they are moved
pub all_moved : (m : Moving) (a : Align) (size gap : ℤ) (rules : List Rule) (sizes : List ℤ) → m.mode ≡ mode_of a.mode → m.safe ≡ is_safe a → m.free ≡ size -ℤ (sum_of sizes +ℤ gap *ℤ pos (m.count - 1)) → m.count ≡ open_tracks rules
    → edges_from (moved_by m) gap 0 (pos 0) rules sizes ≡ edges_in a size (record { rules = rules; sizes = sizes; gap = gap })
all_moved m a size gap rules sizes mode safe free count =
    ap (λ (z : Mode). edges_from (λ k. content_moved z m.safe m.free k m.count) gap 0 (pos 0) rules sizes) mode
    ∙ ap (λ (z : Bool). edges_from (λ k. content_moved (mode_of a.mode) z m.free k m.count) gap 0 (pos 0) rules sizes) safe
    ∙ ap (λ (z : ℤ). edges_from (λ k. content_moved (mode_of a.mode) (is_safe a) z k m.count) gap 0 (pos 0) rules sizes) free
    ∙ ap (λ (n : ℕ). edges_from (λ k. content_moved (mode_of a.mode) (is_safe a) (size -ℤ (sum_of sizes +ℤ gap *ℤ pos (n - 1))) k n) gap 0 (pos 0) rules sizes) count

pub ruleset between_laws = (between_more)
