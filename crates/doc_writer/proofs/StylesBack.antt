-- The declarations of a node as they are written, read again.
use Rattle.std.proofs.Common.{◌≡◌, ℕ, Bool, true, false, not, ◌||◌, List, [], ◌∷◌, ◌++◌, refl, ap, sym, ◌∙◌, if◌then◌else◌, Option, Some, None, Ok, cond}
use Rattle.std.specs.List.{list_all, list_any}
use Rattle.std.specs.FinMap as map
use Rattle.std.specs.Ordering.{eq_by_cmp}
use Rattle.std.proofs.lemmas.Bool.{and_parts, not-true, or_parts}
use Rattle.std.proofs.lemmas.Map.Views.{tells_apart}
use Rattle.text_scan.specs.declared.line.Place.{Place}
use Rattle.style_types.specs.Order.{prop_cmp, prop_cmp_total, prop_cmp-IsAntisymmetric}
use Rattle.style_types.specs.declared.prop.Prop.{Prop}
use Rattle.style_types.specs.declared.prop.Prop.TheVariants as prop
use Rattle.style_types.specs.declared.declared.DeclaredValue.{DeclaredValue}
use Rattle.value_text.specs.Declarations.{place_after}
use Rattle.doc_text.specs.Label.{DeclaredMap}
use Rattle.doc_text.specs.Texts.{text_at}
use Rattle.doc_text.specs.NodeText.{is_semicolon, is_close, ends_declaration, Braces, one_text, with_text, onto_first, braces_of, with_settings}
use Rattle.doc_writer.specs.Documents.{with_value, settings_of}
use Rattle.doc_writer.specs.Properties.{all_properties}

-- ---- texts in braces

-- the byte ends no declaration
abbrev pub inner : ℕ → Bool
inner byte = not (ends_declaration byte)

-- the place past the bytes and the mark that ends them
abbrev pub past_mark : Place → List ℕ → Place
past_mark at [] = place_after at 1
past_mark at (byte ∷ bytes) = past_mark (place_after at 1) bytes

abbrev pub closed_with : Place → List ℕ → List ℕ → Braces
closed_with at bytes rest = record { texts = text_at at bytes ∷ []; close = Ok (text_at (past_mark at bytes) rest) }

abbrev pub ended_with : Place → List ℕ → Braces → Braces
ended_with at bytes braces = record { texts = text_at at bytes ∷ braces.texts; close = braces.close }

onto : (at : Place) (byte : ℕ) (bytes : List ℕ) → inner byte ≡ true → braces_of at (byte ∷ bytes) ≡ onto_first at byte (braces_of (place_after at 1) bytes)
onto at byte bytes h =
    let parts = or_parts (is_close byte) (is_semicolon byte) (not-true (ends_declaration byte) h) in
    ap (λ (b : Bool). if b then one_text at (Ok (text_at (place_after at 1) bytes)) else if is_semicolon byte then with_text at (braces_of (place_after at 1) bytes) else onto_first at byte (braces_of (place_after at 1) bytes)) parts.0
    ∙ ap (λ (b : Bool). if b then with_text at (braces_of (place_after at 1) bytes) else onto_first at byte (braces_of (place_after at 1) bytes)) parts.1

-- a text up to `}`
pub braces_closed : (at : Place) (bytes rest : List ℕ) → list_all inner bytes ≡ true → braces_of at (bytes ++ 125 ∷ rest) ≡ closed_with at bytes rest
braces_closed at [] rest h = refl
braces_closed at (byte ∷ bytes) rest h =
    let parts = and_parts (inner byte) (list_all inner bytes) h in
    onto at byte (bytes ++ 125 ∷ rest) parts.0 ∙ ap (onto_first at byte) (braces_closed (place_after at 1) bytes rest parts.1)

-- a text up to `;`, and those after it
pub braces_ended : (at : Place) (bytes rest : List ℕ) → list_all inner bytes ≡ true → braces_of at (bytes ++ 59 ∷ rest) ≡ ended_with at bytes (braces_of (past_mark at bytes) rest)
braces_ended at [] rest h = refl
braces_ended at (byte ∷ bytes) rest h =
    let parts = and_parts (inner byte) (list_all inner bytes) h in
    onto at byte (bytes ++ 59 ∷ rest) parts.0 ∙ ap (onto_first at byte) (braces_ended (place_after at 1) bytes rest parts.1)

-- ---- the style of what is set

abbrev Values : Type 0
Values = Prop → Option DeclaredValue

abbrev or_else : Option DeclaredValue → Option DeclaredValue → Option DeclaredValue
or_else (Some v) other = Some v
or_else None other = other

abbrev pub is_one : Prop → List Prop → Bool
is_one p properties = list_any (eq_by_cmp prop_cmp p) properties

-- what a property has after the settings of these
abbrev now_has : Values → DeclaredMap → List Prop → Prop → Option DeclaredValue
now_has value style properties q = cond (is_one q properties) (or_else (value q) (map.get style q)) (map.get style q)

twice : (b : Bool) (v o : Option DeclaredValue) → v ≡ None → cond b (or_else v o) o ≡ o
twice true v o e = ap (λ (x : Option DeclaredValue). or_else x o) e
twice false v o e = refl

set_again : (b : Bool) (v : DeclaredValue) (x o : Option DeclaredValue) → x ≡ Some v → cond b (or_else x (Some v)) (Some v) ≡ or_else x o
set_again true v x o e = ap (λ (y : Option DeclaredValue). or_else y (Some v)) e ∙ sym (ap (λ (y : Option DeclaredValue). or_else y o) e)
set_again false v x o e = sym (ap (λ (y : Option DeclaredValue). or_else y o) e)

pub now_set : (value : Values) (properties : List Prop) (style : DeclaredMap) (q : Prop) → map.get (with_settings (settings_of value properties) style) q ≡ now_has value style properties q
now_set value [] style q = refl
now_set value (p ∷ properties) style q = by_value (value p) refl (λ s. now_set value properties s q) where
  same : eq_by_cmp prop_cmp q p ≡ true → q ≡ p
  same e = tells_apart prop_cmp-IsAntisymmetric q p e

  by_test_none : (b : Bool) → eq_by_cmp prop_cmp q p ≡ b → value p ≡ None → now_has value style properties q ≡ cond (b || is_one q properties) (or_else (value q) (map.get style q)) (map.get style q)
  by_test_none true e n =
      let none : value q ≡ None = ap value (same e) ∙ n in
      twice (is_one q properties) (value q) (map.get style q) none ∙ sym (ap (λ (x : Option DeclaredValue). or_else x (map.get style q)) none)
  by_test_none false e n = refl

  by_test_some : (v : DeclaredValue) (b : Bool) → eq_by_cmp prop_cmp q p ≡ b → value p ≡ Some v
      → cond (is_one q properties) (or_else (value q) (cond b (Some v) (map.get style q))) (cond b (Some v) (map.get style q)) ≡ cond (b || is_one q properties) (or_else (value q) (map.get style q)) (map.get style q)
  by_test_some v true e s = set_again (is_one q properties) v (value q) (map.get style q) (ap value (same e) ∙ s)
  by_test_some v false e s = refl

  by_value : (o : Option DeclaredValue) → value p ≡ o → ((s : DeclaredMap) → map.get (with_settings (settings_of value properties) s) q ≡ now_has value s properties q)
      → map.get (with_settings (with_value p o (settings_of value properties)) style) q ≡ now_has value style (p ∷ properties) q
  by_value None n more = more style ∙ by_test_none (eq_by_cmp prop_cmp q p) refl n
  by_value (Some v) s more =
      more (map.insert style p v)
      ∙ ap (λ (x : Option DeclaredValue). cond (is_one q properties) (or_else (value q) x) x) (map.get-insert prop_cmp_total style p v q)
      ∙ by_test_some v (eq_by_cmp prop_cmp q p) refl s

pub every_property : (q : Prop) → is_one q all_properties ≡ true
every_property prop.GridTemplateColumns = refl
every_property prop.GridTemplateRows = refl
every_property prop.GridTemplateAreas = refl
every_property prop.GridAutoColumns = refl
every_property prop.GridAutoRows = refl
every_property prop.GridAutoFlow = refl
every_property prop.GridColumnStart = refl
every_property prop.GridColumnEnd = refl
every_property prop.GridRowStart = refl
every_property prop.GridRowEnd = refl
every_property prop.Order = refl
every_property prop.RowGap = refl
every_property prop.ColumnGap = refl
every_property prop.MarginTop = refl
every_property prop.MarginRight = refl
every_property prop.MarginBottom = refl
every_property prop.MarginLeft = refl
every_property prop.PaddingTop = refl
every_property prop.PaddingRight = refl
every_property prop.PaddingBottom = refl
every_property prop.PaddingLeft = refl
every_property prop.BorderTopWidth = refl
every_property prop.BorderRightWidth = refl
every_property prop.BorderBottomWidth = refl
every_property prop.BorderLeftWidth = refl
every_property prop.Width = refl
every_property prop.Height = refl
every_property prop.MinWidth = refl
every_property prop.MinHeight = refl
every_property prop.MaxWidth = refl
every_property prop.MaxHeight = refl
every_property prop.BoxSizing = refl
every_property prop.Overflow = refl
every_property prop.JustifyContent = refl
every_property prop.AlignContent = refl
every_property prop.JustifyItems = refl
every_property prop.AlignItems = refl
every_property prop.JustifySelf = refl
every_property prop.AlignSelf = refl
every_property prop.FlexDirection = refl
every_property prop.FlexWrap = refl
every_property prop.FlexGrow = refl
every_property prop.FlexShrink = refl
every_property prop.FlexBasis = refl
every_property prop.FontSize = refl

or_none : (o : Option DeclaredValue) → or_else o None ≡ o
or_none None = refl
or_none (Some v) = refl

-- the settings of a style make it
pub style_made : (style : DeclaredMap) → with_settings (settings_of (map.get style) all_properties) map.empty ≡ style
style_made style = map.same_map prop_cmp_total prop_cmp-IsAntisymmetric (with_settings (settings_of (map.get style) all_properties) map.empty) style (λ q.
    now_set (map.get style) all_properties map.empty q
    ∙ ap (λ (b : Bool). cond b (or_else (map.get style q) (map.get {R = prop_cmp} map.empty q)) (map.get {R = prop_cmp} map.empty q)) (every_property q)
    ∙ ap (or_else (map.get style q)) (map.get-empty prop_cmp q)
    ∙ or_none (map.get style q))
