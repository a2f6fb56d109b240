-- Values that were set, or no longer set, and then are as they were.
use Rattle.std.proofs.Common.{arith, ◌≡◌, Bool, true, false, cond, ◌||◌, ◌&&◌, ◌==◌, List, [], ◌∷◌, Option, Some, None, refl, sym, ap, ◌∙◌}
use Rattle.std.proofs.lemmas.Map.Views.{any-filter_same}
use Rattle.std.specs.Cmp.{unsigned_tied}
use Rattle.std.specs.List.{list_any}
use Rattle.std.specs.Prelude.{map}
use Rattle.std.specs.Ordering.{eq_by_cmp}
use Rattle.std.specs.FinMap as finite
use Rattle.std.proofs.lemmas.Bool.Decides.{nat_tests}
use Rattle.style_types.specs.declared.prop.Prop.{Prop}
use Rattle.style_types.specs.declared.declared.DeclaredValue.{DeclaredValue}
use Rattle.style_types.specs.Order.{place_of, place_of_one, prop_cmp, prop_cmp_total, prop_cmp-IsAntisymmetric}
use Rattle.value_text.specs.ValueText.{Settings}
use Rattle.doc_text.specs.Label.{DeclaredMap}
use Rattle.doc_text.specs.NodeText.{with_settings}
use Rattle.doc_text.specs.Edits.{without_props}
use Rattle.edit_journal.specs.Changes.{Values, with_value, with_values}
use Rattle.edit_journal.specs.Steps.{values_set, values_unset, is_other, once, values_in, props_of}

-- ---- an edit's values as those of a change

pub set_values : (settings : Settings) (style : DeclaredMap) → with_values (values_set settings) style ≡ with_settings settings style
set_values [] style = refl
set_values (setting ∷ settings) style = set_values settings (finite.insert style setting.0 setting.1)

pub unset_values : (props : List Prop) (style : DeclaredMap) → with_values (values_unset props) style ≡ without_props props style
unset_values [] style = refl
unset_values (p ∷ props) style = unset_values props (finite.remove style p)

-- ---- which properties are named

-- the two are one property
abbrev same : Prop → Prop → Bool
same q p = eq_by_cmp prop_cmp q p

abbrev named : Prop → List Prop → Bool
named q props = list_any (same q) props

same_place : (q p : Prop) → same q p ≡ true → place_of q ≡ place_of p
same_place q p e = let f : (place_of q == place_of p) ≡ true = sym (unsigned_tied (place_of q) (place_of p)) ∙ e in grind (arith, nat_tests)

same_prop : (q p : Prop) → same q p ≡ true → q ≡ p
same_prop q p e = place_of_one q p (same_place q p e)

-- what is not p is named in the list without p where it was before
unlike : (q p : Prop) → same q p ≡ false → is_other p q ≡ true
unlike q p e = let f : (place_of q == place_of p) ≡ false = sym (unsigned_tied (place_of q) (place_of p)) ∙ e in grind (arith, nat_tests)

named_once : (q : Prop) (props : List Prop) → named q (once props) ≡ named q props
named_once q [] = refl
named_once q (p ∷ props) = ap (λ b. same q p || b) (any-filter_same (same q) (is_other p) (is_other p q) (λ k e. ap (is_other p) (sym (same_prop q k e))) (once props)) ∙ by_test (same q p) refl (named_once q props)
  where
    by_test : (b : Bool) → same q p ≡ b → named q (once props) ≡ named q props → (b || (is_other p q && named q (once props))) ≡ (b || named q props)
    by_test true e h = refl
    by_test false e h = ap (λ c. c && named q (once props)) (unlike q p e) ∙ h

-- ---- what properties have afterwards

one_value : (p : Prop) (o : Option DeclaredValue) (style : DeclaredMap) (q : Prop) → finite.get (with_value p o style) q ≡ cond (same q p) o (finite.get style q)
one_value p None style q = finite.get-remove prop_cmp_total style p q
one_value p (Some value) style q = finite.get-insert prop_cmp_total style p value q

-- the values of these properties in a style
abbrev from_style : DeclaredMap → List Prop → Values
from_style style props = map (λ p. (p, finite.get style p)) props

named_values : (style now : DeclaredMap) (props : List Prop) (q : Prop) → finite.get (with_values (from_style style props) now) q ≡ cond (named q props) (finite.get style q) (finite.get now q)
named_values style now [] q = refl
named_values style now (p ∷ props) q = named_values style (with_value p (finite.get style p) now) props q ∙ ap (cond (named q props) (finite.get style q)) (one_value p (finite.get style p) now q) ∙ by_test (same q p) (named q props) refl
  where
    by_test : (b c : Bool) → same q p ≡ b → cond c (finite.get style q) (cond b (finite.get style p) (finite.get now q)) ≡ cond (b || c) (finite.get style q) (finite.get now q)
    by_test true true e = refl
    by_test true false e = ap (finite.get style) (sym (same_prop q p e))
    by_test false c e = refl

-- what is not named stays
other_set : (settings : Settings) (style : DeclaredMap) (q : Prop) → named q (props_of settings) ≡ false → finite.get (with_settings settings style) q ≡ finite.get style q
other_set [] style q h = refl
other_set (setting ∷ settings) style q h = by_test (same q setting.0) h (other_set settings (finite.insert style setting.0 setting.1) q) (finite.get-insert prop_cmp_total style setting.0 setting.1 q)
  where
    by_test : (b : Bool) → (b || named q (props_of settings)) ≡ false
        → (named q (props_of settings) ≡ false → finite.get (with_settings settings (finite.insert style setting.0 setting.1)) q ≡ finite.get (finite.insert style setting.0 setting.1) q)
        → finite.get (finite.insert style setting.0 setting.1) q ≡ cond b (Some setting.1) (finite.get style q) → finite.get (with_settings settings (finite.insert style setting.0 setting.1)) q ≡ finite.get style q
    by_test true h rest e = absurd (cc)
    by_test false h rest e = rest h ∙ e

other_unset : (props : List Prop) (style : DeclaredMap) (q : Prop) → named q props ≡ false → finite.get (without_props props style) q ≡ finite.get style q
other_unset [] style q h = refl
other_unset (p ∷ props) style q h = by_test (same q p) h (other_unset props (finite.remove style p) q) (finite.get-remove prop_cmp_total style p q)
  where
    by_test : (b : Bool) → (b || named q props) ≡ false → (named q props ≡ false → finite.get (without_props props (finite.remove style p)) q ≡ finite.get (finite.remove style p) q)
        → finite.get (finite.remove style p) q ≡ cond b None (finite.get style q) → finite.get (without_props props (finite.remove style p)) q ≡ finite.get style q
    by_test true h rest e = absurd (cc)
    by_test false h rest e = rest h ∙ e

-- ---- and so all are as before

-- a style that differs in these properties alone has what another had, once they have what they had there
restored : (style now : DeclaredMap) (props : List Prop) → ((q : Prop) → named q props ≡ false → finite.get now q ≡ finite.get style q) → with_values (values_in style props) now ≡ style
restored style now props others = finite.same_map prop_cmp_total prop_cmp-IsAntisymmetric (with_values (values_in style props) now) style (λ q.
    named_values style now (once props) q ∙ ap (λ b. cond b (finite.get style q) (finite.get now q)) (named_once q props) ∙ by_test q (named q props) refl)
  where
    by_test : (q : Prop) (b : Bool) → named q props ≡ b → cond b (finite.get style q) (finite.get now q) ≡ finite.get style q
    by_test q true e = refl
    by_test q false e = others q e

pub set_back : (settings : Settings) (style : DeclaredMap) → with_values (values_in style (props_of settings)) (with_settings settings style) ≡ style
set_back settings style = restored style (with_settings settings style) (props_of settings) (other_set settings style)

pub unset_back : (props : List Prop) (style : DeclaredMap) → with_values (values_in style props) (without_props props style) ≡ style
unset_back props style = restored style (without_props props style) props (other_unset props style)
