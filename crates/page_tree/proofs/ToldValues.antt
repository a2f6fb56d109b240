-- Each value that a declaration sets is in range.
use Rattle.std.proofs.Common.{refl, subst, arith, true≢false, ℕ, ◌≤◌, Bool, true, false, inl, inr, List, [], ◌∷◌, length, map, Option, Some, None, Result, Err, if◌then◌else◌}
use Rattle.std.specs.Prelude.{IfOk, IfSome, codes, ⊤}
use Rattle.std.specs.Option.{option_map}
use Rattle.std.specs.Str.{bytes_eq}
use Rattle.std.proofs.lemmas.List.{length-map}
use Rattle.lunit.specs.declared.line_value.LineValue.{LineValue}
use Rattle.text_scan.specs.declared.line.Fault.{Fault}
use Rattle.text_scan.specs.declared.line.Place.{Place}
use Rattle.text_scan.specs.declared.token.Token.{Token}
use Rattle.text_scan.specs.Tokens.{tokens_from}
use Rattle.style_types.specs.declared.declared.DeclaredValue.{DeclaredValue}
use Rattle.style_types.specs.declared.prop.Prop.{Prop}
use Rattle.style_types.specs.declared.prop.Prop.TheVariants as prop
use Rattle.style_types.specs.declared.track.TrackFn.{TrackFn}
use Rattle.style_types.specs.declared.unit.Unit.{Unit}
use Rattle.style_types.specs.declared.value.Value.{Value}
use Rattle.style_types.specs.declared.value.Value.TheVariants as value
use Rattle.track_text.specs.Words.{Word, word_at}
use Rattle.track_text.specs.Values.{integer_of, factor_of, is_relative}
use Rattle.track_text.specs.Gives.{fault_at, or_bad}
use Rattle.track_text.specs.Templates.{ReadTemplate, template_of, auto_tracks}
use Rattle.value_text.specs.declared.property.Property.{Property}
use Rattle.value_text.specs.declared.property.Property.TheVariants as property
use Rattle.value_text.specs.declared.property.Shorthand.{Shorthand}
use Rattle.value_text.specs.declared.property.Shorthand.TheVariants as shorthand
use Rattle.value_text.specs.declared.size.Measured.{Measured}
use Rattle.value_text.specs.declared.size.SizeForm.{SizeForm}
use Rattle.value_text.specs.AreaText.{areas_of}
use Rattle.value_text.specs.FlexText.{flex_of}
use Rattle.value_text.specs.Keywords.{word_alone, either, scroll_of, flow_of, align_of}
use Rattle.value_text.specs.Lines.{one_line, two_lines, four_lines}
use Rattle.value_text.specs.Sizes.{one_size, two_sizes, side_sizes, size_value}
use Rattle.value_text.specs.Forms.{edge_form, margin_form, gap_form, size_form, max_form, basis_form, content_form, items_form, self_form, form_of}
use Rattle.value_text.specs.ValueText.{plain, template_value, tracks_value, areas_value, line_value, value_of, Settings, line_settings, area_settings, gap_settings, side_settings, flex_settings, parts_of, one_setting, settings_of}
use Rattle.value_text.specs.Refusals.{is_refused}
use Rattle.value_text.specs.Properties.{property_of}
use Rattle.value_text.specs.Declarations.{place_after, refused_by, value_at, after_property, by_property, tokens_reading, declaration}
use Rattle.doc_text.specs.Valid.{IsAmong, IsDeclared}
use Rattle.doc_text.proofs.Short.{tokens_few}
use Rattle.placing.specs.Ranges.{AreAreas, IsLine}
use Rattle.page_tree.specs.Ranges.{IsInRange}
use Rattle.page_tree.proofs.ToldOptions.{some_map, some_weaker, some_any, Each}
use Rattle.page_tree.proofs.ToldSizes.{IsSizeIn, AreTwoSizes, AreSides, IsFlex, one_read, two_read, sides_read, flex_read}
use Rattle.page_tree.proofs.ToldTracks.{AreSizes, auto_read}
use Rattle.page_tree.proofs.ToldTemplates.{IsTemplateRead, template_read}
use Rattle.page_tree.proofs.ToldLines.{AreTwoLines, AreFourLines, line_read}
use Rattle.page_tree.proofs.ToldLines.{two_read as two_lines_read, four_read as four_lines_read}
use Rattle.page_tree.proofs.ToldAreas.{areas_read}

-- ---- values by their form

template_in : (relative : Bool) (p : Prop) → ((read : ReadTemplate) → IsTemplateRead read → IsInRange p (template_value read)) → (words : List Word) → IfSome (option_map template_value (template_of relative words)) (IsInRange p)
template_in relative p h words =
    some_map (IsInRange p) template_value (template_of relative words)
    (some_weaker IsTemplateRead (λ read. IsInRange p (template_value read)) (template_of relative words) h (template_read relative words))

tracks_in : (relative : Bool) (p : Prop) → ((read : List TrackFn × List Unit) → AreSizes read → IsInRange p (tracks_value read)) → (words : List Word) → IfSome (option_map tracks_value (auto_tracks relative words)) (IsInRange p)
tracks_in relative p h words =
    some_map (IsInRange p) tracks_value (auto_tracks relative words)
    (some_weaker AreSizes (λ read. IsInRange p (tracks_value read)) (auto_tracks relative words) h (auto_read relative words))

size_in : (relative : Bool) (form : SizeForm) (p : Prop) → ((m : Measured) → IsSizeIn form.below_zero m → IsInRange p (size_value m)) → (words : List Word) → IfSome (option_map size_value (one_size relative form words)) (IsInRange p)
size_in relative form p h words =
    some_map (IsInRange p) size_value (one_size relative form words)
    (some_weaker (IsSizeIn form.below_zero) (λ m. IsInRange p (size_value m)) (one_size relative form words) h (one_read relative form words))

plain_in : {A : Type 0} (p : Prop) (make : A → Value) (o : Option A) → ((a : A) → IsInRange p (plain (make a))) → IfSome (option_map plain (option_map make o)) (IsInRange p)
plain_in p make o h = some_map (IsInRange p) plain (option_map make o) (some_map (λ v. IsInRange p (plain v)) make o (some_any (λ a. IsInRange p (plain (make a))) o h))

line_in : (p : Prop) → ((l : LineValue) → IsLine l → IsInRange p (line_value l)) → (words : List Word) → IfSome (option_map plain (option_map value.Line (one_line words))) (IsInRange p)
line_in p h words =
    some_map (IsInRange p) plain (option_map value.Line (one_line words))
    (some_map (λ v. IsInRange p (plain v)) value.Line (one_line words) (some_weaker IsLine (λ l. IsInRange p (line_value l)) (one_line words) h (line_read words)))

-- ---- values by their property

value_in : (relative : Bool) (p : Prop) (words : List Word) → length words ≤ 65536 → IfSome (value_of relative (form_of p) words) (IsInRange p)
value_in relative prop.GridTemplateColumns words few = template_in relative prop.GridTemplateColumns (λ r h. record { value = h.range; units = λ _. h.units }) words
value_in relative prop.GridTemplateRows words few = template_in relative prop.GridTemplateRows (λ r h. record { value = h.range; units = λ _. h.units }) words
value_in relative prop.GridTemplateAreas words few = some_map (IsInRange prop.GridTemplateAreas) areas_value (areas_of words) (some_weaker AreAreas (λ a. IsInRange prop.GridTemplateAreas (areas_value a)) (areas_of words) (λ a h. record { value = h; units = λ _. refl }) (areas_read words few))
value_in relative prop.GridAutoColumns words few = tracks_in relative prop.GridAutoColumns (λ r h. record { value = h.tracks; units = λ _. h.units }) words
value_in relative prop.GridAutoRows words few = tracks_in relative prop.GridAutoRows (λ r h. record { value = h.tracks; units = λ _. h.units }) words
value_in relative prop.GridAutoFlow words few = plain_in prop.GridAutoFlow (λ f. value.Flow f.0 f.1) (flow_of words) (λ _. record { value = tt; units = λ _. refl })
value_in relative prop.GridColumnStart words few = line_in prop.GridColumnStart (λ l h. record { value = h; units = λ _. refl }) words
value_in relative prop.GridColumnEnd words few = line_in prop.GridColumnEnd (λ l h. record { value = h; units = λ _. refl }) words
value_in relative prop.GridRowStart words few = line_in prop.GridRowStart (λ l h. record { value = h; units = λ _. refl }) words
value_in relative prop.GridRowEnd words few = line_in prop.GridRowEnd (λ l h. record { value = h; units = λ _. refl }) words
value_in relative prop.Order words few = plain_in prop.Order value.Order (word_alone integer_of words) (λ _. record { value = tt; units = λ _. refl })
value_in relative prop.RowGap words few = size_in relative gap_form prop.RowGap (λ m h. record { value = h.size refl; units = λ _. h.units refl }) words
value_in relative prop.ColumnGap words few = size_in relative gap_form prop.ColumnGap (λ m h. record { value = h.size refl; units = λ _. h.units refl }) words
value_in relative prop.MarginTop words few = size_in relative margin_form prop.MarginTop (λ m h. record { value = h.margin; units = λ e. absurd (true≢false e) }) words
value_in relative prop.MarginRight words few = size_in relative margin_form prop.MarginRight (λ m h. record { value = h.margin; units = λ e. absurd (true≢false e) }) words
value_in relative prop.MarginBottom words few = size_in relative margin_form prop.MarginBottom (λ m h. record { value = h.margin; units = λ e. absurd (true≢false e) }) words
value_in relative prop.MarginLeft words few = size_in relative margin_form prop.MarginLeft (λ m h. record { value = h.margin; units = λ e. absurd (true≢false e) }) words
value_in relative prop.PaddingTop words few = size_in relative edge_form prop.PaddingTop (λ m h. record { value = h.edge refl; units = λ _. h.units refl }) words
value_in relative prop.PaddingRight words few = size_in relative edge_form prop.PaddingRight (λ m h. record { value = h.edge refl; units = λ _. h.units refl }) words
value_in relative prop.PaddingBottom words few = size_in relative edge_form prop.PaddingBottom (λ m h. record { value = h.edge refl; units = λ _. h.units refl }) words
value_in relative prop.PaddingLeft words few = size_in relative edge_form prop.PaddingLeft (λ m h. record { value = h.edge refl; units = λ _. h.units refl }) words
value_in relative prop.BorderTopWidth words few = size_in relative edge_form prop.BorderTopWidth (λ m h. record { value = h.edge refl; units = λ _. h.units refl }) words
value_in relative prop.BorderRightWidth words few = size_in relative edge_form prop.BorderRightWidth (λ m h. record { value = h.edge refl; units = λ _. h.units refl }) words
value_in relative prop.BorderBottomWidth words few = size_in relative edge_form prop.BorderBottomWidth (λ m h. record { value = h.edge refl; units = λ _. h.units refl }) words
value_in relative prop.BorderLeftWidth words few = size_in relative edge_form prop.BorderLeftWidth (λ m h. record { value = h.edge refl; units = λ _. h.units refl }) words
value_in relative prop.Width words few = size_in relative size_form prop.Width (λ m h. record { value = h.size refl; units = λ _. h.units refl }) words
value_in relative prop.Height words few = size_in relative size_form prop.Height (λ m h. record { value = h.size refl; units = λ _. h.units refl }) words
value_in relative prop.MinWidth words few = size_in relative size_form prop.MinWidth (λ m h. record { value = h.size refl; units = λ _. h.units refl }) words
value_in relative prop.MinHeight words few = size_in relative size_form prop.MinHeight (λ m h. record { value = h.size refl; units = λ _. h.units refl }) words
value_in relative prop.MaxWidth words few = size_in relative max_form prop.MaxWidth (λ m h. record { value = h.size refl; units = λ _. h.units refl }) words
value_in relative prop.MaxHeight words few = size_in relative max_form prop.MaxHeight (λ m h. record { value = h.size refl; units = λ _. h.units refl }) words
value_in relative prop.BoxSizing words few = plain_in prop.BoxSizing value.BorderBox (word_alone (either (codes "content-box") (codes "border-box")) words) (λ _. record { value = tt; units = λ _. refl })
value_in relative prop.Overflow words few = plain_in prop.Overflow value.Overflow (word_alone scroll_of words) (λ _. record { value = tt; units = λ _. refl })
value_in relative prop.JustifyContent words few = plain_in prop.JustifyContent value.Align (align_of content_form words) (λ _. record { value = tt; units = λ _. refl })
value_in relative prop.AlignContent words few = plain_in prop.AlignContent value.Align (align_of content_form words) (λ _. record { value = tt; units = λ _. refl })
value_in relative prop.JustifyItems words few = plain_in prop.JustifyItems value.Align (align_of items_form words) (λ _. record { value = tt; units = λ _. refl })
value_in relative prop.AlignItems words few = plain_in prop.AlignItems value.Align (align_of items_form words) (λ _. record { value = tt; units = λ _. refl })
value_in relative prop.JustifySelf words few = plain_in prop.JustifySelf value.Align (align_of self_form words) (λ _. record { value = tt; units = λ _. refl })
value_in relative prop.AlignSelf words few = plain_in prop.AlignSelf value.Align (align_of self_form words) (λ _. record { value = tt; units = λ _. refl })
value_in relative prop.FlexDirection words few = plain_in prop.FlexDirection value.Column (word_alone (either (codes "row") (codes "column")) words) (λ _. record { value = tt; units = λ _. refl })
value_in relative prop.FlexWrap words few = plain_in prop.FlexWrap value.Wrap (word_alone (either (codes "nowrap") (codes "wrap")) words) (λ _. record { value = tt; units = λ _. refl })
value_in relative prop.FlexGrow words few = plain_in prop.FlexGrow value.Factor (word_alone factor_of words) (λ _. record { value = tt; units = λ _. refl })
value_in relative prop.FlexShrink words few = plain_in prop.FlexShrink value.Factor (word_alone factor_of words) (λ _. record { value = tt; units = λ _. refl })
value_in relative prop.FlexBasis words few = size_in relative basis_form prop.FlexBasis (λ m h. record { value = h.size refl; units = λ _. h.units refl }) words
value_in relative prop.FontSize words few = size_in relative edge_form prop.FontSize (λ m h. record { value = h.size refl; units = λ _. h.units refl }) words

-- ---- shorthands

abbrev IsSet : Prop × DeclaredValue → Type 0
IsSet setting = IsInRange setting.0 setting.1

abbrev pub AreSet : Settings → Type 0
AreSet = Each IsSet

two_lines_in : (p q : Prop) → ((l : LineValue) → IsLine l → IsInRange p (line_value l)) → ((l : LineValue) → IsLine l → IsInRange q (line_value l)) → (words : List Word) → IfSome (option_map (line_settings p q) (two_lines words)) AreSet
two_lines_in p q h k words =
    some_map AreSet (line_settings p q) (two_lines words)
    (some_weaker AreTwoLines (λ read. AreSet (line_settings p q read)) (two_lines words) (λ read r. (h read.0 r.start, (k read.1 r.end, tt))) (two_lines_read words))

four_lines_in : (words : List Word) → IfSome (option_map area_settings (four_lines words)) AreSet
four_lines_in words =
    some_map AreSet area_settings (four_lines words)
    (some_weaker AreFourLines (λ read. AreSet (area_settings read)) (four_lines words)
    (λ read r. (record { value = r.row; units = λ _. refl }, (record { value = r.column; units = λ _. refl }, (record { value = r.row_end; units = λ _. refl }, (record { value = r.column_end; units = λ _. refl }, tt)))))
    (four_lines_read words))

gaps_in : (relative : Bool) (words : List Word) → IfSome (option_map gap_settings (two_sizes relative gap_form words)) AreSet
gaps_in relative words =
    some_map AreSet gap_settings (two_sizes relative gap_form words)
    (some_weaker (AreTwoSizes gap_form) (λ read. AreSet (gap_settings read)) (two_sizes relative gap_form words)
    (λ read r. (record { value = r.first.size refl; units = λ _. r.first.units refl }, (record { value = r.second.size refl; units = λ _. r.second.units refl }, tt)))
    (two_read relative gap_form words))

abbrev IsFor : SizeForm → Prop → Type 0
IsFor form p = (m : Measured) → IsSizeIn form.below_zero m → IsInRange p (size_value m)

sides_in : (relative : Bool) (form : SizeForm) (top right bottom left : Prop) → IsFor form top → IsFor form right → IsFor form bottom → IsFor form left → (words : List Word)
    → IfSome (option_map (side_settings top right bottom left) (side_sizes relative form words)) AreSet
sides_in relative form top right bottom left t r b l words =
    some_map AreSet (side_settings top right bottom left) (side_sizes relative form words)
    (some_weaker (AreSides form) (λ read. AreSet (side_settings top right bottom left read)) (side_sizes relative form words)
    (λ read h. (t read.0 h.top, (r read.1 h.right, (b read.2 h.bottom, (l read.3 h.left, tt)))))
    (sides_read relative form words))

flex_in : (relative : Bool) (words : List Word) → IfSome (option_map flex_settings (flex_of relative words)) AreSet
flex_in relative words =
    some_map AreSet flex_settings (flex_of relative words)
    (some_weaker IsFlex (λ f. AreSet (flex_settings f)) (flex_of relative words)
    (λ f h. (record { value = tt; units = λ _. refl }, (record { value = tt; units = λ _. refl }, (record { value = h.size refl; units = λ _. h.units refl }, tt))))
    (flex_read relative words))

parts_in : (relative : Bool) (s : Shorthand) (words : List Word) → IfSome (parts_of relative s words) AreSet
parts_in relative shorthand.GridColumn words = two_lines_in prop.GridColumnStart prop.GridColumnEnd (λ l h. record { value = h; units = λ _. refl }) (λ l h. record { value = h; units = λ _. refl }) words
parts_in relative shorthand.GridRow words = two_lines_in prop.GridRowStart prop.GridRowEnd (λ l h. record { value = h; units = λ _. refl }) (λ l h. record { value = h; units = λ _. refl }) words
parts_in relative shorthand.GridArea words = four_lines_in words
parts_in relative shorthand.Gap words = gaps_in relative words
parts_in relative shorthand.Margin words =
    sides_in relative margin_form prop.MarginTop prop.MarginRight prop.MarginBottom prop.MarginLeft
    (λ m h. record { value = h.margin; units = λ e. absurd (true≢false e) }) (λ m h. record { value = h.margin; units = λ e. absurd (true≢false e) })
    (λ m h. record { value = h.margin; units = λ e. absurd (true≢false e) }) (λ m h. record { value = h.margin; units = λ e. absurd (true≢false e) }) words
parts_in relative shorthand.Padding words =
    sides_in relative edge_form prop.PaddingTop prop.PaddingRight prop.PaddingBottom prop.PaddingLeft
    (λ m h. record { value = h.edge refl; units = λ _. h.units refl }) (λ m h. record { value = h.edge refl; units = λ _. h.units refl })
    (λ m h. record { value = h.edge refl; units = λ _. h.units refl }) (λ m h. record { value = h.edge refl; units = λ _. h.units refl }) words
parts_in relative shorthand.BorderWidth words =
    sides_in relative edge_form prop.BorderTopWidth prop.BorderRightWidth prop.BorderBottomWidth prop.BorderLeftWidth
    (λ m h. record { value = h.edge refl; units = λ _. h.units refl }) (λ m h. record { value = h.edge refl; units = λ _. h.units refl })
    (λ m h. record { value = h.edge refl; units = λ _. h.units refl }) (λ m h. record { value = h.edge refl; units = λ _. h.units refl }) words
parts_in relative shorthand.Flex words = flex_in relative words

settings_in : (relative : Bool) (p : Property) (words : List Word) → length words ≤ 65536 → IfSome (settings_of relative p words) AreSet
settings_in relative (property.Longhand p) words few =
    some_map AreSet (one_setting p) (value_of relative (form_of p) words)
    (some_weaker (IsInRange p) (λ v. IsInRange p v × ⊤) (value_of relative (form_of p) words) (λ v h. (h, tt)) (value_in relative p words few))
settings_in relative (property.Shorthand s) words few = parts_in relative s words
settings_in relative property.Unsupported words few = tt

-- ---- a declaration

ok_if : {A : Type 0} (P : A → Type 0) (b : Bool) (x y : Result A Fault) → IfOk x P → IfOk y P → IfOk (if b then x else y) P
ok_if P true x y h k = h
ok_if P false x y h k = k

or_bad_in : {A : Type 0} (P : A → Type 0) (at : Place) (o : Option A) → IfSome o P → IfOk (or_bad at o) P
or_bad_in P at None h = tt
or_bad_in P at (Some a) h = h

value_at_in : (at : Place) (relative : Bool) (text : List ℕ) (p : Property) (tokens : List Token) → length tokens ≤ 65536 → IfOk (value_at at relative text p tokens) AreSet
value_at_in at relative text p [] few = tt
value_at_in at relative text p (token ∷ tokens) few =
    let words = map (word_at text) (token ∷ tokens) in
    let place = place_after at token.start in
    ok_if AreSet (is_refused relative (refused_by p) words) (Err (fault_at 11 place)) (or_bad place (settings_of relative p words)) tt
    (or_bad_in AreSet place (settings_of relative p words) (settings_in relative p words (omega (arith, length-map (token ∷ tokens) (word_at text), few))))

after_in : (at : Place) (relative : Bool) (text : List ℕ) (p : Property) (tokens : List Token) → length tokens ≤ 65536 → IfOk (after_property at relative text p tokens) AreSet
after_in at relative text p [] few = tt
after_in at relative text p (token ∷ tokens) few =
    ok_if AreSet (bytes_eq (word_at text token) (codes ":")) (value_at at relative text p tokens) (Err (fault_at 9 (place_after at token.start)))
    (value_at_in at relative text p tokens (omega (arith, few))) tt

pub declaration_in : (version : ℕ) (at : Place) (text : List ℕ) → length text ≤ 65536 → IfOk (declaration version at text) AreSet
declaration_in version at text short = by_tokens (tokens_from 0 text) (let few = tokens_few 0 text in omega (arith, few, short))
  where
    by_property_in : (token : Token) (tokens : List Token) (o : Option Property) → length tokens ≤ 65536 → IfOk (by_property at (is_relative version) text token tokens o) AreSet
    by_property_in token tokens None few = tt
    by_property_in token tokens (Some property.Unsupported) few = tt
    by_property_in token tokens (Some (property.Longhand p)) few = after_in at (is_relative version) text (property.Longhand p) tokens few
    by_property_in token tokens (Some (property.Shorthand s)) few = after_in at (is_relative version) text (property.Shorthand s) tokens few

    by_tokens : (tokens : List Token) → length tokens ≤ 65536 → IfOk (tokens_reading at (is_relative version) text tokens) AreSet
    by_tokens [] few = tt
    by_tokens (token ∷ tokens) few = by_property_in token tokens (property_of (is_relative version) (word_at text token)) (omega (arith, few))

among_in : (p : Prop) (d : DeclaredValue) (settings : Settings) → IsAmong (p, d) settings → AreSet settings → IsInRange p d
among_in p d [] a h = absurd a
among_in p d (other ∷ settings) (inl e) h = subst IsSet e h.0
among_in p d (other ∷ settings) (inr a) h = among_in p d settings a h.1

-- a value that a text tells of a property is in range
pub declared_in : (version : ℕ) (p : Prop) (d : DeclaredValue) → IsDeclared version p d → IsInRange p d
declared_in version p d h = among_in p d h.settings h.among (subst (λ (r : Result Settings Fault). IfOk r AreSet) h.read (declaration_in version h.at h.text h.short))
