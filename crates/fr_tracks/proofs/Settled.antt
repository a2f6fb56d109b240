-- Why the last fraction alone tells which tracks take part: a fraction is never greater than the one before.
use Rattle.std.proofs.Common.{arith, ap, subst, ◌≡◌, ◌∙◌, sym, refl, ℕ, zero, suc, max, ◌+◌, ◌*◌, ◌<◌, ◌≤◌, ℤ, pos, negsuc, ◌+ℤ◌, ◌-ℤ◌, ◌*ℤ◌, ◌≤ℤ◌, ◌<ℤ◌, Bool, true, false, nat_lt, ◌&&◌, List, [], ◌∷◌, map, length, if◌then◌else◌, int_lt}
use Rattle.std.proofs.lemmas.Bool.{ltb-true, ltb-false}
use Rattle.std.proofs.Math.Nat.{mul-le-mul_left}
use Rattle.std.specs.List.{list_any}
use Rattle.std.specs.Int.{int_max}
use Rattle.std.proofs.lemmas.Int.{ints, clamps}
use Rattle.lunit.specs.Units.{clamp, top}
use Rattle.part_rules.specs.declared.fraction.FrRow.{FrRow}
use Rattle.part_rules.specs.Lists.{sum_of, total_of}
use Rattle.part_rules.proofs.Floor.{add-times, times-add}
use Rattle.part_rules.specs.Fractions.{is_flexible, factor_of, held, leftover, weight_of, falls_short, settled, inflexible, left_flexible}
use Rattle.fr_tracks.specs.Settled.{HaveBases, IsSpace}

-- ---- the fraction 0 over 0, of which no track falls short

one_none : (r : FrRow) → settled (pos 0) 0 r ≡ r
one_none r = go (is_flexible r) (int_lt (pos 0 *ℤ pos (factor_of r)) (r.base *ℤ pos 0)) refl
  where
    go : (f s : Bool) → int_lt (pos 0 *ℤ pos (factor_of r)) (r.base *ℤ pos 0) ≡ s → (if f && s then inflexible r else r) ≡ r
    go true true e = absurd (omega (arith, ints))
    go true false e = refl
    go false s e = refl

settled_none : (rows : List FrRow) → map (settled (pos 0) 0) rows ≡ rows
settled_none [] = refl
settled_none (r ∷ rest) = ap (λ (x : FrRow). x ∷ map (settled (pos 0) 0) rest) (one_none r) ∙ ap (λ (xs : List FrRow). r ∷ xs) (settled_none rest)

-- ---- a track that falls short of one fraction falls short of each that is not greater

later : (l w s v b f : ℕ) → 0 < v → s * w ≤ l * v → l * f < b * w → s * f < b * v
later l w s v b f some h short = go (nat_lt (s * f) (b * v)) refl
  where
    go : (t : Bool) → nat_lt (s * f) (b * v) ≡ t → s * f < b * v
    go true e = ltb-true (s * f) (b * v) e
    go false e =
        let a = mul-le-mul_left w (ltb-false (s * f) (b * v) e) in
        let c = mul-le-mul_left f h in
        let d = mul-le-mul_left v short in
        absurd (omega (arith, a, c, d))

pub less_test : (x y : ℤ) → x <ℤ y → int_lt x y ≡ true
less_test x y h = go (int_lt x y) refl
  where
    go : (t : Bool) → int_lt x y ≡ t → t ≡ true
    go true e = refl
    go false e = absurd (omega (arith, ints))

abbrev pub IsWithin : ℤ → ℕ → ℤ → ℕ → Type 0
IsWithin s v l w = (s *ℤ pos w) ≤ℤ (l *ℤ pos v)

pub short_later : (l : ℤ) (w : ℕ) (s : ℤ) (v : ℕ) (b : ℤ) (f : ℕ) → 0 < v → pos 0 ≤ℤ l → pos 0 ≤ℤ s → pos 0 ≤ℤ b → IsWithin s v l w → int_lt (l *ℤ pos f) (b *ℤ pos w) ≡ true → int_lt (s *ℤ pos f) (b *ℤ pos v) ≡ true
short_later (pos l) w (pos s) v (pos b) f some p q r h e = less_test (pos s *ℤ pos f) (pos b *ℤ pos v) (omega (arith, ints, later l w s v b f some (omega (arith, ints)) (omega (arith, ints))))
short_later (negsuc l) w s v b f some p q r h e = absurd (omega (arith, ints))
short_later (pos l) w (negsuc s) v b f some p q r h e = absurd (omega (arith, ints))
short_later (pos l) w (pos s) v (negsuc b) f some p q r h e = absurd (omega (arith, ints))

one_again : (l : ℤ) (w : ℕ) (s : ℤ) (v : ℕ) (r : FrRow) → 0 < v → pos 0 ≤ℤ l → pos 0 ≤ℤ s → pos 0 ≤ℤ r.base → IsWithin s v l w → settled s v (settled l w r) ≡ settled s v r
one_again l w s v r some p q b h = go (is_flexible r) (int_lt (l *ℤ pos (factor_of r)) (r.base *ℤ pos w)) refl refl
  where
    go : (f t : Bool) → is_flexible r ≡ f → int_lt (l *ℤ pos (factor_of r)) (r.base *ℤ pos w) ≡ t → settled s v (if f && t then inflexible r else r) ≡ settled s v r
    go true true e d =
        let x : int_lt (s *ℤ pos (factor_of r)) (r.base *ℤ pos v) ≡ true = short_later l w s v r.base (factor_of r) some p q b h d in
        sym (ap (λ (y : Bool). if y && int_lt (s *ℤ pos (factor_of r)) (r.base *ℤ pos v) then inflexible r else r) e ∙ ap (λ (y : Bool). if y then inflexible r else r) x)
    go true false e d = refl
    go false t e d = refl

pub settled_again : (l : ℤ) (w : ℕ) (s : ℤ) (v : ℕ) (rows : List FrRow) → 0 < v → pos 0 ≤ℤ l → pos 0 ≤ℤ s → HaveBases rows → IsWithin s v l w → map (settled s v) (map (settled l w) rows) ≡ map (settled s v) rows
settled_again l w s v [] some p q b h = refl
settled_again l w s v (r ∷ rest) some p q b h =
    ap (λ (x : FrRow). x ∷ map (settled s v) (map (settled l w) rest)) (one_again l w s v r some p q b.0 h)
    ∙ ap (λ (xs : List FrRow). settled s v r ∷ xs) (settled_again l w s v rest some p q b.1 h)

-- ---- the next fraction is not greater

-- what a track that falls short takes off the space is more than what it had of it
record Falls (l : ℤ) (w f g : ℕ) (h k : ℤ) : Type 0 where
  parts : ((l *ℤ pos f) +ℤ (h *ℤ pos w)) ≤ℤ ((l *ℤ pos g) +ℤ (k *ℤ pos w))
  held : h ≤ℤ k
  fewer : g ≤ f

one_falls : (l : ℤ) (w : ℕ) (r : FrRow) → pos 0 ≤ℤ r.base → Falls l w (factor_of r) (factor_of (settled l w r)) (held r) (held (settled l w r))
one_falls l w r b = go (is_flexible r) (int_lt (l *ℤ pos (factor_of r)) (r.base *ℤ pos w)) refl refl
  where
    go : (f t : Bool) → is_flexible r ≡ f → int_lt (l *ℤ pos (factor_of r)) (r.base *ℤ pos w) ≡ t
        → Falls l w (factor_of r) (factor_of (if f && t then inflexible r else r)) (held r) (held (if f && t then inflexible r else r))
    go true true e d =
        let none : held r ≡ pos 0 = ap (λ (y : Bool). if y then pos 0 else r.base) e in
        record { parts = omega (arith, ints, ap (λ (z : ℤ). z *ℤ pos w) none); held = omega (arith, ints); fewer = omega arith }
    go true false e d = record { parts = omega (arith, ints); held = omega (arith, ints); fewer = omega arith }
    go false t e d = record { parts = omega (arith, ints); held = omega (arith, ints); fewer = omega arith }

both_fall : (l : ℤ) (w f g f' g' : ℕ) (h k h' k' : ℤ) → Falls l w f g h k → Falls l w f' g' h' k' → Falls l w (f + f') (g + g') (h +ℤ h') (k +ℤ k')
both_fall l w f g f' g' h k h' k' a b =
    record {
      parts = omega (arith, ints, a.parts, b.parts, times-add l f f', times-add l g g', add-times h h' w, add-times k k' w);
      held = omega (arith, ints, a.held, b.held);
      fewer = omega (arith, a.fewer, b.fewer);
    }

all_fall : (l : ℤ) (w : ℕ) (rows : List FrRow) → HaveBases rows → Falls l w (total_of (map factor_of rows)) (total_of (map factor_of (map (settled l w) rows))) (sum_of (map held rows)) (sum_of (map held (map (settled l w) rows)))
all_fall l w [] b = record { parts = omega (arith, ints); held = omega (arith, ints); fewer = omega arith }
all_fall l w (r ∷ rest) b =
    both_fall l w (factor_of r) (factor_of (settled l w r)) (total_of (map factor_of rest)) (total_of (map factor_of (map (settled l w) rest))) (held r) (held (settled l w r)) (sum_of (map held rest)) (sum_of (map held (map (settled l w) rest))) (one_falls l w r b.0)
    (all_fall l w rest b.1)

pub leftover_some : (space : ℤ) (rows : List FrRow) → pos 0 ≤ℤ leftover space rows
unfolding clamp
leftover_some space rows = omega (arith, ints, clamps)

pub weight_some : (rows : List FrRow) → 0 < weight_of rows
weight_some rows = omega arith

next_within : (space h k s t : ℤ) (f g : ℕ) → space ≤ℤ top → pos 0 ≤ℤ h → s ≡ clamp (int_max (pos 0) (space -ℤ h)) → t ≡ clamp (int_max (pos 0) (space -ℤ k)) → Falls s (max 1000 f) f g h k → IsWithin t (max 1000 g) s (max 1000 f)
unfolding clamp
next_within space h k (negsuc s) t f g most some e d fall = absurd (omega (arith, ints, clamps))
next_within space h k (pos s) (negsuc t) f g most some e d fall = absurd (omega (arith, ints, clamps))
next_within space h k (pos s) (pos zero) f g most some e d fall = omega (arith, ints)
next_within space h k (pos s) (pos (suc t)) f g most some e d fall =
    let w : ℕ = max 1000 f in
    let v : ℕ = max 1000 g in
    let fewer : g ≤ f = fall.fewer in
    let more : w + g ≤ v + f = omega arith in
    let a : space ≡ pos s +ℤ h = omega (arith, ints, clamps, fall.held) in
    let b : space ≡ pos (suc t) +ℤ k = omega (arith, ints, clamps, fall.held) in
    let c : h -ℤ k ≡ pos (suc t) -ℤ pos s = omega (arith, ints) in
    omega (arith, ints, fall.parts, mul-le-mul_left s more, ap (λ (z : ℤ). z *ℤ pos w) c, add-times (pos s) h w, add-times (pos (suc t)) k w, ap (λ (z : ℤ). z *ℤ pos w) (sym a ∙ b))

pub held_some : (rows : List FrRow) → HaveBases rows → pos 0 ≤ℤ sum_of (map held rows)
held_some [] b = omega (arith, ints)
held_some (r ∷ rest) b = go (is_flexible r) b.0 (held_some rest b.1)
  where
    go : (f : Bool) → pos 0 ≤ℤ r.base → pos 0 ≤ℤ sum_of (map held rest) → pos 0 ≤ℤ ((if f then pos 0 else r.base) +ℤ sum_of (map held rest))
    go true p q = omega (arith, ints)
    go false p q = omega (arith, ints)

settled_bases : (l : ℤ) (w : ℕ) (rows : List FrRow) → HaveBases rows → HaveBases (map (settled l w) rows)
settled_bases l w [] b = tt
settled_bases l w (r ∷ rest) b = (go (falls_short l w r) b.0, settled_bases l w rest b.1)
  where
    go : (t : Bool) → pos 0 ≤ℤ r.base → pos 0 ≤ℤ (if t then inflexible r else r).base
    go true p = p
    go false p = p

-- The fraction of the tracks that do not fall short of one is not greater than it.
pub falls : (space : ℤ) (rows : List FrRow) → space ≤ℤ top → HaveBases rows → IsWithin (leftover space (map (settled (leftover space rows) (weight_of rows)) rows)) (weight_of (map (settled (leftover space rows) (weight_of rows)) rows)) (leftover space rows) (weight_of rows)
falls space rows most b =
    let next : List FrRow = map (settled (leftover space rows) (weight_of rows)) rows in
    next_within space (sum_of (map held rows)) (sum_of (map held next)) (leftover space rows) (leftover space next) (total_of (map factor_of rows)) (total_of (map factor_of next)) most (held_some rows b) refl refl (all_fall (leftover space rows) (weight_of rows) rows b)

-- ---- the starts

-- As many more starts, from the tracks that do not fall short of this fraction, give what all starts give.
pub record IsStart (space : ℤ) (rows : List FrRow) (l : ℤ) (w more : ℕ) : Type 0 where
  pub same : left_flexible (length rows) space rows ≡ left_flexible more space (map (settled l w) rows)
  pub some : pos 0 ≤ℤ l
  pub within : IsWithin (leftover space (map (settled l w) rows)) (weight_of (map (settled l w) rows)) l w

pub start_first : (space : ℤ) (rows : List FrRow) → IsStart space rows (pos 0) 0 (length rows)
start_first space rows = record { same = ap (left_flexible (length rows) space) (sym (settled_none rows)); some = omega (arith, ints); within = omega (arith, ints) }

pub starts_first : (space : ℤ) (rows : List FrRow) (l : ℤ) (more : ℕ) → l ≡ clamp (pos 0) → more ≡ length rows → IsStart space rows l 0 more
unfolding clamp
starts_first space rows l more e m = subst (λ (z : ℤ). IsStart space rows z 0 more) (sym e) (subst (λ (n : ℕ). IsStart space rows (pos 0) 0 n) (sym m) (start_first space rows))

pub next_start : (space : ℤ) (rows : List FrRow) (l : ℤ) (w more : ℕ) → IsSpace space → HaveBases rows → IsStart space rows l w (suc more)
    → list_any (falls_short (leftover space (map (settled l w) rows)) (weight_of (map (settled l w) rows))) (map (settled l w) rows) ≡ true
    → IsStart space rows (leftover space (map (settled l w) rows)) (weight_of (map (settled l w) rows)) more
unfolding left_flexible
next_start space rows l w more fits bases start short =
    let kept : List FrRow = map (settled l w) rows in
    let s : ℤ = leftover space kept in
    let v : ℕ = weight_of kept in
    let again : map (settled s v) kept ≡ map (settled s v) rows = settled_again l w s v rows (weight_some kept) start.some (leftover_some space kept) bases start.within in
    record {
      same = start.same ∙ ap (λ (t : Bool). if t then left_flexible more space (map (settled s v) kept) else kept) short ∙ ap (left_flexible more space) again;
      some = leftover_some space kept;
      within = subst (λ (xs : List FrRow). IsWithin (leftover space xs) (weight_of xs) s v) again (falls space kept fits.1 (settled_bases l w rows bases));
    }

pub starts_next : (space : ℤ) (rows : List FrRow) (l s : ℤ) (w v more next : ℕ) → IsSpace space → HaveBases rows → IsStart space rows l w more → more ≡ next + 1 → s ≡ leftover space (map (settled l w) rows) → v ≡ weight_of (map (settled l w) rows)
    → list_any (falls_short s v) (map (settled l w) rows) ≡ true → IsStart space rows s v next
starts_next space rows l s w v more next fits bases start m e d short =
    let k : more ≡ suc next = omega arith in
    subst (λ (z : ℤ). IsStart space rows z v next) (sym e) (subst (λ (n : ℕ). IsStart space rows (leftover space (map (settled l w) rows)) n next) (sym d)
    (next_start space rows l w next fits bases (subst (λ (n : ℕ). IsStart space rows l w n) k start)
    (ap (λ (z : ℤ). list_any (falls_short z (weight_of (map (settled l w) rows))) (map (settled l w) rows)) (sym e) ∙ ap (λ (n : ℕ). list_any (falls_short s n) (map (settled l w) rows)) (sym d) ∙ short)))

pub end_start : (space : ℤ) (rows : List FrRow) (l : ℤ) (w more : ℕ) → IsStart space rows l w more
    → list_any (falls_short (leftover space (map (settled l w) rows)) (weight_of (map (settled l w) rows))) (map (settled l w) rows) ≡ false → left_flexible (length rows) space rows ≡ map (settled l w) rows
unfolding left_flexible
end_start space rows l w zero start none = start.same
end_start space rows l w (suc more) start none =
    let kept : List FrRow = map (settled l w) rows in
    start.same ∙ ap (λ (t : Bool). if t then left_flexible more space (map (settled (leftover space kept) (weight_of kept)) kept) else kept) none

pub starts_end : (space : ℤ) (rows : List FrRow) (l s : ℤ) (w v more : ℕ) → IsStart space rows l w more → s ≡ leftover space (map (settled l w) rows) → v ≡ weight_of (map (settled l w) rows)
    → list_any (falls_short s v) (map (settled l w) rows) ≡ false → left_flexible (length rows) space rows ≡ map (settled l w) rows
starts_end space rows l s w v more start e d none =
    end_start space rows l w more start
    (ap (λ (z : ℤ). list_any (falls_short z (weight_of (map (settled l w) rows))) (map (settled l w) rows)) (sym e) ∙ ap (λ (n : ℕ). list_any (falls_short s n) (map (settled l w) rows)) (sym d) ∙ none)

pub starts_over : (space : ℤ) (rows : List FrRow) (l : ℤ) (w more : ℕ) → IsStart space rows l w more → more ≡ 0 → left_flexible (length rows) space rows ≡ map (settled l w) rows
unfolding left_flexible
starts_over space rows l w zero start e = start.same
starts_over space rows l w (suc more) start e = absurd (omega arith)

pub ruleset starts = (starts_first, starts_next, starts_end, starts_over)
