-- Tracks that no item spans alone.
use Rattle.std.proofs.Common.{ap, subst, ◌≡◌, ◌∙◌, sym, refl, ℕ, ◌+◌, ◌<◌, ◌≤◌, ℤ, pos, ◌+ℤ◌, Bool, true, false, ◌&&◌, List, [], ◌∷◌, map, drop, length, get_or, cond, Option, None, if◌then◌else◌}
use Rattle.std.specs.Prelude.{option_map}
use Rattle.std.specs.Int.{int_max}
use Rattle.std.specs.List.{list_any}
use Rattle.std.specs.Ordering.{int_eq}
use Rattle.std.proofs.Math.ListN.{drop_of_length-le}
use Rattle.lunit.specs.declared.item.Item.{Item}
use Rattle.part_rules.specs.declared.track.Least.{Least}
use Rattle.part_rules.specs.declared.track.Least.TheVariants as least
use Rattle.part_rules.specs.declared.track.Space.{Space}
use Rattle.part_rules.specs.Tracks.{Track, alone, base_for, fit_alone, fit_items, flexible, limit_for, raise_limit}
use Rattle.track_sizing.specs.Alone.{fit_none, fit_or_pass, is_single}
use Rattle.track_sizing.specs.Calm.{AreQuietItems}
use Rattle.track_sizing.specs.Here.{IsIdle}
use Rattle.track_sizing.proofs.Order.{that_number}
use Rattle.track_sizing.proofs.Parted.{neither}
use Rattle.track_sizing.proofs.Sums.{drop_item}

none_alone : (items : List Item) (t : Track) → list_any is_single items ≡ false → alone items t ≡ []
none_alone [] t e = refl
none_alone (i ∷ rest) t e =
    let parts = neither (is_single i) (list_any is_single rest) e in
    ap (λ (b : Bool). cond b (i ∷ alone rest t) (alone rest t)) (go (int_eq i.span.start t.at) refl parts.0) ∙ none_alone rest t parts.1
  where
    go : (b : Bool) → int_eq i.span.start t.at ≡ b → is_single i ≡ false → (b && int_eq i.span.end (t.at +ℤ pos 1)) ≡ false
    go true d s = ap (λ (z : ℤ). int_eq i.span.end (z +ℤ pos 1)) (sym (that_number i.span.start t.at d)) ∙ s
    go false d s = refl

base_none : {axis : ℕ} (space : Space axis) (gap : ℤ) (ts : List Track) (l : Least) (base : ℤ) → base_for space gap ts [] l base ≡ base
base_none space gap ts (least.Fixed x) base = refl
base_none space gap ts least.MinContent base = refl
base_none space gap ts least.MaxContent base = refl
base_none space gap ts least.Auto base = refl

one_unspanned : {axis : ℕ} (space : Space axis) (gap : ℤ) (items : List Item) (ts : List Track) (t : Track) → list_any is_single items ≡ false → fit_or_pass space gap items ts t ≡ fit_none t
one_unspanned space gap items ts t e = ap (λ (mine : List Item). if flexible t then t else fit_items space gap ts mine t) (none_alone items t e) ∙ go (flexible t)
  where
    go : (b : Bool) → (if b then t else fit_items space gap ts [] t) ≡ (if b then t else raise_limit t)
    go true = refl
    go false = ap (λ (z : ℤ). raise_limit (record t { base = z; limit = limit_for [] t.rule.most t.limit })) (base_none space gap ts t.rule.least t.base)

each_unspanned : {axis : ℕ} (space : Space axis) (gap : ℤ) (items : List Item) (ts us : List Track) → list_any is_single items ≡ false → map (fit_or_pass space gap items ts) us ≡ map fit_none us
each_unspanned space gap items ts [] e = refl
each_unspanned space gap items ts (u ∷ us) e =
    ap (λ (x : Track). x ∷ map (fit_or_pass space gap items ts) us) (one_unspanned space gap items ts u e) ∙ ap (λ (xs : List Track). fit_none u ∷ xs) (each_unspanned space gap items ts us e)

pub unspanned : {axis : ℕ} (space : Space axis) (gap : ℤ) (items : List Item) (ts : List Track) → list_any is_single items ≡ false → fit_alone space gap items ts ≡ map fit_none ts
unspanned space gap items ts e = each_unspanned space gap items ts ts e

pub as_it_was : (t : Track) (limit : Option ℤ) (b : Bool) → b ≡ flexible t → b ≡ false → limit ≡ t.limit → limit ≡ None → t ≡ fit_none t
as_it_was t limit b f e l n =
    let none : t.limit ≡ None = sym l ∙ n in
    sym
    (
    ap (λ (c : Bool). if c then t else raise_limit t) (sym f ∙ e)
    ∙ ap (λ (o : Option ℤ). record t { limit = option_map (int_max t.base) o }) none
    ∙ ap (λ (o : Option ℤ). record t { limit = o }) (sym none)
    )

-- Where those from this place on are idle, none of those that span two tracks or more asks for anything.
pub record IsIdleTo (gap : ℤ) (items : List Item) (at : ℕ) : Type 0 where
  pub whole : AreQuietItems gap (drop at items) → AreQuietItems gap items

pub idle_start : (gap : ℤ) (items : List Item) → IsIdleTo gap items 0
idle_start gap items = record { whole = λ h. h }

pub idle_more : (gap : ℤ) (items : List Item) (at : ℕ) (i : Item) → IsIdleTo gap items at → at < length items → i ≡ get_or items at i → IsIdle gap i → IsIdleTo gap items (at + 1)
idle_more gap items at i so h e d = record { whole = λ rest. so.whole (subst (AreQuietItems gap) (sym (drop_item items at i h e)) ((λ w. d), rest)) }

pub idle_all : (gap : ℤ) (items : List Item) (at : ℕ) → IsIdleTo gap items at → length items ≤ at → AreQuietItems gap items
idle_all gap items at so h = let none : drop at items ≡ [] = drop_of_length-le items h in so.whole (subst (AreQuietItems gap) (sym none) tt)

pub ruleset items_idle = (idle_start, idle_more, idle_all)
