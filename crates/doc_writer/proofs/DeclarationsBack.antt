-- Declarations as they are written, read again.
use Rattle.std.proofs.Common.{◌≡◌, ℕ, ◌≤◌, Bool, true, false, ◌&&◌, ◌||◌, ◌==◌, List, [], ◌∷◌, ◌++◌, map, refl, ap, sym, subst, ◌∙◌, arith, if◌then◌else◌, Option, Some, None, is_some, Result, Ok, Err, codes, inl, inr}
use Rattle.std.specs.Prelude.{⊤}
use Rattle.std.specs.List.{list_all, list_any}
use Rattle.std.specs.Option.{option_map}
use Rattle.std.specs.Str.{bytes_eq}
use Rattle.std.proofs.lemmas.Bool.{true≢false, and_parts, and_from, or_right}
use Rattle.std.proofs.lemmas.List.{append-nil}
use Rattle.lunit.specs.declared.line_value.LineValue.{LineValue}
use Rattle.style_types.specs.declared.declared.DeclaredValue.{DeclaredValue}
use Rattle.style_types.specs.declared.prop.Prop.{Prop}
use Rattle.style_types.specs.declared.prop.Prop.TheVariants as prop
use Rattle.style_types.specs.declared.value.Size.TheVariants as size
use Rattle.style_types.specs.declared.value.Value.TheVariants as value
use Rattle.text_scan.specs.declared.line.Fault.{Fault}
use Rattle.text_scan.specs.declared.line.Place.{Place}
use Rattle.text_scan.specs.declared.token.Token.{Token}
use Rattle.text_scan.specs.Tokens.{tokens_from, word_goes_on, is_mark}
use Rattle.track_text.specs.Words.{Word, word_at, is_alone}
use Rattle.track_text.specs.Values.{is_relative, factor_of}
use Rattle.track_text.specs.Gives.{fault_at, or_bad}
use Rattle.track_text.proofs.Cuts.{cuts}
use Rattle.value_text.specs.declared.flex.Flex.{Flex}
use Rattle.value_text.specs.declared.form.Form.TheVariants as form
use Rattle.value_text.specs.declared.form.Refused.{Refused}
use Rattle.value_text.specs.declared.form.Refused.TheVariants as refused
use Rattle.value_text.specs.declared.property.Property.{Property}
use Rattle.value_text.specs.declared.property.Property.TheVariants as property
use Rattle.value_text.specs.declared.property.Shorthand.{Shorthand}
use Rattle.value_text.specs.declared.property.Shorthand.TheVariants as shorthand
use Rattle.value_text.specs.declared.size.Measured.{Measured}
use Rattle.value_text.specs.Properties.{named, properties, properties_2, properties_3, properties_4, properties_5, properties_6, properties_7, properties_8, properties_9, properties_10, with_version, property_of}
use Rattle.value_text.specs.Forms.{form_of, refused_by_prop, edge_form, margin_form, gap_form, size_form, max_form, basis_form, content_form, items_form, self_form}
use Rattle.value_text.specs.FlexText.{flex, no_basis, with_basis, after_shrink, shrink_or_basis, after_grow, grow_or_basis, factors_of, flex_of}
use Rattle.value_text.specs.Refusals.{is_refused}
use Rattle.value_text.specs.Sizes.{Sides, plain_size, size_of, size_value, if_ended, two_sizes, side_sizes}
use Rattle.value_text.specs.Lines.{FourLines, two_lines, four_lines}
use Rattle.value_text.specs.ValueText.{Settings, plain, value_of, line_settings, area_settings, gap_settings, side_settings, flex_settings, parts_of, one_setting, settings_of}
use Rattle.value_text.specs.Declarations.{place_after, refused_by, value_reading, value_at, after_property, by_property, tokens_reading, declaration}
use Rattle.doc_text.specs.Valid.{IsAmong, IsDeclared}
use Rattle.doc_writer.specs.Documents.{declaration_words}
use Rattle.doc_writer.specs.Properties.{property_word}
use Rattle.doc_writer.specs.Spaces.{words_after, words_text}
use Rattle.doc_writer.specs.Values.{value_words}
use Rattle.doc_writer.proofs.WordsBack.{is_plain, is_nil, is_token, are_tokens, words_back, any_yes}
use Rattle.doc_writer.proofs.Told.{Every, every_map, every_bind, every_if, every_so, factor_told}
use Rattle.doc_writer.proofs.QuietBack.{AllowsPercent}
use Rattle.doc_writer.proofs.LinesBack.{IsLine, AreTwo, AreFour, two_lines_told, four_lines_told, ended_told}
use Rattle.doc_writer.proofs.SizesBack.{IsMeasured, AreTwoSizes, AreSides, size_told, two_sizes_told, side_sizes_told}
use Rattle.doc_writer.proofs.ValuesBack.{is_value_token, IsBack, anything, flow_told, line_is_back, lines_told, order_told, factor_is_back, factors_told, box_told, scroll_told, direction_told, wrap_told, aligns_told, size_is_back, sizes_told}
use Rattle.doc_writer.proofs.SidesBack.{AllHold, auto_told}
use Rattle.doc_writer.proofs.TemplatesBack.{template_told}
use Rattle.doc_writer.proofs.AreasBack.{areas_told}

-- ---- the properties of a version

abbrev IsFont : Prop → Type 0
IsFont prop.FontSize = ⊤
IsFont p = ⊥

-- `font-size` is a property where lengths may be relative
abbrev pub IsIn : Bool → Prop → Type 0
IsIn relative p = IsFont p → relative ≡ true

-- what is declared is written so that it is read again
abbrev pub IsSetting : Bool → Prop × DeclaredValue → Type 0
IsSetting relative setting = IsIn relative setting.0 × IsBack relative (form_of setting.0) (refused_by_prop setting.0) setting.1

-- the property that a name has is the one whose name it is
property_back : (relative : Bool) (p : Prop) → IsIn relative p → property_of relative (property_word p) ≡ Some (property.Longhand p)
unfolding properties properties_2 properties_3 properties_4 properties_5 properties_6 properties_7 properties_8 properties_9 properties_10
property_back true prop.GridTemplateColumns h = refl
property_back true prop.GridTemplateRows h = refl
property_back true prop.GridTemplateAreas h = refl
property_back true prop.GridAutoColumns h = refl
property_back true prop.GridAutoRows h = refl
property_back true prop.GridAutoFlow h = refl
property_back true prop.GridColumnStart h = refl
property_back true prop.GridColumnEnd h = refl
property_back true prop.GridRowStart h = refl
property_back true prop.GridRowEnd h = refl
property_back true prop.Order h = refl
property_back true prop.RowGap h = refl
property_back true prop.ColumnGap h = refl
property_back true prop.MarginTop h = refl
property_back true prop.MarginRight h = refl
property_back true prop.MarginBottom h = refl
property_back true prop.MarginLeft h = refl
property_back true prop.PaddingTop h = refl
property_back true prop.PaddingRight h = refl
property_back true prop.PaddingBottom h = refl
property_back true prop.PaddingLeft h = refl
property_back true prop.BorderTopWidth h = refl
property_back true prop.BorderRightWidth h = refl
property_back true prop.BorderBottomWidth h = refl
property_back true prop.BorderLeftWidth h = refl
property_back true prop.Width h = refl
property_back true prop.Height h = refl
property_back true prop.MinWidth h = refl
property_back true prop.MinHeight h = refl
property_back true prop.MaxWidth h = refl
property_back true prop.MaxHeight h = refl
property_back true prop.BoxSizing h = refl
property_back true prop.Overflow h = refl
property_back true prop.JustifyContent h = refl
property_back true prop.AlignContent h = refl
property_back true prop.JustifyItems h = refl
property_back true prop.AlignItems h = refl
property_back true prop.JustifySelf h = refl
property_back true prop.AlignSelf h = refl
property_back true prop.FlexDirection h = refl
property_back true prop.FlexWrap h = refl
property_back true prop.FlexGrow h = refl
property_back true prop.FlexShrink h = refl
property_back true prop.FlexBasis h = refl
property_back true prop.FontSize h = refl
property_back false prop.GridTemplateColumns h = refl
property_back false prop.GridTemplateRows h = refl
property_back false prop.GridTemplateAreas h = refl
property_back false prop.GridAutoColumns h = refl
property_back false prop.GridAutoRows h = refl
property_back false prop.GridAutoFlow h = refl
property_back false prop.GridColumnStart h = refl
property_back false prop.GridColumnEnd h = refl
property_back false prop.GridRowStart h = refl
property_back false prop.GridRowEnd h = refl
property_back false prop.Order h = refl
property_back false prop.RowGap h = refl
property_back false prop.ColumnGap h = refl
property_back false prop.MarginTop h = refl
property_back false prop.MarginRight h = refl
property_back false prop.MarginBottom h = refl
property_back false prop.MarginLeft h = refl
property_back false prop.PaddingTop h = refl
property_back false prop.PaddingRight h = refl
property_back false prop.PaddingBottom h = refl
property_back false prop.PaddingLeft h = refl
property_back false prop.BorderTopWidth h = refl
property_back false prop.BorderRightWidth h = refl
property_back false prop.BorderBottomWidth h = refl
property_back false prop.BorderLeftWidth h = refl
property_back false prop.Width h = refl
property_back false prop.Height h = refl
property_back false prop.MinWidth h = refl
property_back false prop.MinHeight h = refl
property_back false prop.MaxWidth h = refl
property_back false prop.MaxHeight h = refl
property_back false prop.BoxSizing h = refl
property_back false prop.Overflow h = refl
property_back false prop.JustifyContent h = refl
property_back false prop.AlignContent h = refl
property_back false prop.JustifyItems h = refl
property_back false prop.AlignItems h = refl
property_back false prop.JustifySelf h = refl
property_back false prop.AlignSelf h = refl
property_back false prop.FlexDirection h = refl
property_back false prop.FlexWrap h = refl
property_back false prop.FlexGrow h = refl
property_back false prop.FlexShrink h = refl
property_back false prop.FlexBasis h = refl
property_back false prop.FontSize h = absurd (true≢false (sym (h tt)))

-- ---- the value of each property

margin_allows : margin_form.percent ≡ true → AllowsPercent refused.Percentages
margin_allows e = absurd (true≢false (sym e))

edge_allows : (r : Refused) → edge_form.percent ≡ true → AllowsPercent r
edge_allows r e = absurd (true≢false (sym e))

pub value_told : (relative : Bool) (p : Prop) (words : List Word) → Every (IsBack relative (form_of p) (refused_by_prop p)) (value_of relative (form_of p) words)
value_told relative prop.GridTemplateColumns words = template_told relative words
value_told relative prop.GridTemplateRows words = template_told relative words
value_told relative prop.GridTemplateAreas words = areas_told relative words
value_told relative prop.GridAutoColumns words = auto_told relative words
value_told relative prop.GridAutoRows words = auto_told relative words
value_told relative prop.GridAutoFlow words = flow_told relative words
value_told relative prop.GridColumnStart words = lines_told relative words
value_told relative prop.GridColumnEnd words = lines_told relative words
value_told relative prop.GridRowStart words = lines_told relative words
value_told relative prop.GridRowEnd words = lines_told relative words
value_told relative prop.Order words = order_told relative words
value_told relative prop.RowGap words = sizes_told relative gap_form refused.Nothing (λ _. tt) tt words
value_told relative prop.ColumnGap words = sizes_told relative gap_form refused.Nothing (λ _. tt) tt words
value_told relative prop.MarginTop words = sizes_told relative margin_form refused.Percentages margin_allows tt words
value_told relative prop.MarginRight words = sizes_told relative margin_form refused.Percentages margin_allows tt words
value_told relative prop.MarginBottom words = sizes_told relative margin_form refused.Percentages margin_allows tt words
value_told relative prop.MarginLeft words = sizes_told relative margin_form refused.Percentages margin_allows tt words
value_told relative prop.PaddingTop words = sizes_told relative edge_form refused.Percentages (edge_allows refused.Percentages) tt words
value_told relative prop.PaddingRight words = sizes_told relative edge_form refused.Percentages (edge_allows refused.Percentages) tt words
value_told relative prop.PaddingBottom words = sizes_told relative edge_form refused.Percentages (edge_allows refused.Percentages) tt words
value_told relative prop.PaddingLeft words = sizes_told relative edge_form refused.Percentages (edge_allows refused.Percentages) tt words
value_told relative prop.BorderTopWidth words = sizes_told relative edge_form refused.Nothing (edge_allows refused.Nothing) tt words
value_told relative prop.BorderRightWidth words = sizes_told relative edge_form refused.Nothing (edge_allows refused.Nothing) tt words
value_told relative prop.BorderBottomWidth words = sizes_told relative edge_form refused.Nothing (edge_allows refused.Nothing) tt words
value_told relative prop.BorderLeftWidth words = sizes_told relative edge_form refused.Nothing (edge_allows refused.Nothing) tt words
value_told relative prop.Width words = sizes_told relative size_form refused.Contents (λ _. tt) tt words
value_told relative prop.Height words = sizes_told relative size_form refused.Contents (λ _. tt) tt words
value_told relative prop.MinWidth words = sizes_told relative size_form refused.Contents (λ _. tt) tt words
value_told relative prop.MinHeight words = sizes_told relative size_form refused.Contents (λ _. tt) tt words
value_told relative prop.MaxWidth words = sizes_told relative max_form refused.Contents (λ _. tt) tt words
value_told relative prop.MaxHeight words = sizes_told relative max_form refused.Contents (λ _. tt) tt words
value_told relative prop.BoxSizing words = box_told relative words
value_told relative prop.Overflow words = scroll_told relative words
value_told relative prop.JustifyContent words = aligns_told relative content_form words
value_told relative prop.AlignContent words = aligns_told relative content_form words
value_told relative prop.JustifyItems words = aligns_told relative items_form words
value_told relative prop.AlignItems words = aligns_told relative items_form words
value_told relative prop.JustifySelf words = aligns_told relative self_form words
value_told relative prop.AlignSelf words = aligns_told relative self_form words
value_told relative prop.FlexDirection words = direction_told relative words
value_told relative prop.FlexWrap words = wrap_told relative words
value_told relative prop.FlexGrow words = factors_told relative words
value_told relative prop.FlexShrink words = factors_told relative words
value_told relative prop.FlexBasis words = sizes_told relative basis_form refused.Contents (λ _. tt) tt words
value_told relative prop.FontSize words = sizes_told relative edge_form refused.Nothing (edge_allows refused.Nothing) tt words

-- ---- shorthands

line_set : (relative : Bool) (l : LineValue) → IsLine l → IsBack relative form.Line refused.Nothing (plain (value.Line l))
line_set relative l h = line_is_back relative l h

abbrev AreSettings : Bool → Settings → Type 0
AreSettings relative settings = AllHold (IsSetting relative) settings

columns_set : (relative : Bool) (read : LineValue × LineValue) → AreTwo read → AreSettings relative (line_settings prop.GridColumnStart prop.GridColumnEnd read)
columns_set relative read h = (((λ f. absurd f), line_set relative read.0 h.0), (((λ f. absurd f), line_set relative read.1 h.1), tt))

rows_set : (relative : Bool) (read : LineValue × LineValue) → AreTwo read → AreSettings relative (line_settings prop.GridRowStart prop.GridRowEnd read)
rows_set relative read h = (((λ f. absurd f), line_set relative read.0 h.0), (((λ f. absurd f), line_set relative read.1 h.1), tt))

area_set : (relative : Bool) (read : FourLines) → AreFour read → AreSettings relative (area_settings read)
area_set relative read h = (((λ f. absurd f), line_set relative read.0 h.0.0), (((λ f. absurd f), line_set relative read.1 h.0.1), (((λ f. absurd f), line_set relative read.2 h.1.0), (((λ f. absurd f), line_set relative read.3 h.1.1), tt))))

gap_set : (relative : Bool) (m : Measured) → IsMeasured relative gap_form m → IsBack relative (form.Size gap_form) refused.Nothing (size_value m)
gap_set relative m h = size_is_back relative gap_form refused.Nothing (λ _. tt) tt m h

gaps_set : (relative : Bool) (read : Measured × Measured) → AreTwoSizes relative gap_form read → AreSettings relative (gap_settings read)
gaps_set relative read h = (((λ f. absurd f), gap_set relative read.0 h.0), (((λ f. absurd f), gap_set relative read.1 h.1), tt))

margin_set : (relative : Bool) (m : Measured) → IsMeasured relative margin_form m → IsBack relative (form.Size margin_form) refused.Percentages (size_value m)
margin_set relative m h = size_is_back relative margin_form refused.Percentages margin_allows tt m h

margins_set : (relative : Bool) (read : Sides) → AreSides relative margin_form read → AreSettings relative (side_settings prop.MarginTop prop.MarginRight prop.MarginBottom prop.MarginLeft read)
margins_set relative read h = (((λ f. absurd f), margin_set relative read.0 h.0.0), (((λ f. absurd f), margin_set relative read.1 h.0.1), (((λ f. absurd f), margin_set relative read.2 h.1.0), (((λ f. absurd f), margin_set relative read.3 h.1.1), tt))))

padding_set : (relative : Bool) (m : Measured) → IsMeasured relative edge_form m → IsBack relative (form.Size edge_form) refused.Percentages (size_value m)
padding_set relative m h = size_is_back relative edge_form refused.Percentages (edge_allows refused.Percentages) tt m h

paddings_set : (relative : Bool) (read : Sides) → AreSides relative edge_form read → AreSettings relative (side_settings prop.PaddingTop prop.PaddingRight prop.PaddingBottom prop.PaddingLeft read)
paddings_set relative read h = (((λ f. absurd f), padding_set relative read.0 h.0.0), (((λ f. absurd f), padding_set relative read.1 h.0.1), (((λ f. absurd f), padding_set relative read.2 h.1.0), (((λ f. absurd f), padding_set relative read.3 h.1.1), tt))))

border_set : (relative : Bool) (m : Measured) → IsMeasured relative edge_form m → IsBack relative (form.Size edge_form) refused.Nothing (size_value m)
border_set relative m h = size_is_back relative edge_form refused.Nothing (edge_allows refused.Nothing) tt m h

borders_set : (relative : Bool) (read : Sides) → AreSides relative edge_form read → AreSettings relative (side_settings prop.BorderTopWidth prop.BorderRightWidth prop.BorderBottomWidth prop.BorderLeftWidth read)
borders_set relative read h = (((λ f. absurd f), border_set relative read.0 h.0.0), (((λ f. absurd f), border_set relative read.1 h.0.1), (((λ f. absurd f), border_set relative read.2 h.1.0), (((λ f. absurd f), border_set relative read.3 h.1.1), tt))))

-- ---- `flex`

abbrev IsFlex : Bool → Flex → Type 0
IsFlex relative f = ((f.grow ≤ 10000000) × (f.shrink ≤ 10000000)) × IsMeasured relative basis_form f.basis

no_basis_fits : (relative : Bool) → IsMeasured relative basis_form no_basis
no_basis_fits relative = (omega arith, refl)

with_basis_told : (relative : Bool) (grow shrink : ℕ) (word : Word) (words : List Word) → grow ≤ 10000000 → shrink ≤ 10000000 → Every (IsFlex relative) (with_basis relative grow shrink word words)
with_basis_told relative grow shrink word words g s =
    every_bind (IsFlex relative) (IsMeasured relative basis_form) (λ basis. if_ended words (flex grow shrink basis)) (size_of relative basis_form word) (size_told relative basis_form word)
    (λ basis h. ended_told (IsFlex relative) words (flex grow shrink basis) ((g, s), h))

after_shrink_told : (relative : Bool) (grow shrink : ℕ) (words : List Word) → grow ≤ 10000000 → shrink ≤ 10000000 → Every (IsFlex relative) (after_shrink relative grow shrink words)
after_shrink_told relative grow shrink [] g s = ((g, s), no_basis_fits relative)
after_shrink_told relative grow shrink (word ∷ words) g s = with_basis_told relative grow shrink word words g s

shrink_told : (relative : Bool) (grow : ℕ) (o : Option ℕ) (word : Word) (words : List Word) → grow ≤ 10000000 → Every (λ t. t ≤ 10000000) o → Every (IsFlex relative) (shrink_or_basis relative grow o word words)
shrink_told relative grow (Some shrink) word words g h = after_shrink_told relative grow shrink words g h
shrink_told relative grow None word words g h = with_basis_told relative grow 1000 word words g (omega arith)

after_grow_told : (relative : Bool) (grow : ℕ) (words : List Word) → grow ≤ 10000000 → Every (IsFlex relative) (after_grow relative grow words)
after_grow_told relative grow [] g = ((g, omega arith), no_basis_fits relative)
after_grow_told relative grow (word ∷ words) g = shrink_told relative grow (factor_of word) word words g (factor_told word)

grow_told : (relative : Bool) (o : Option ℕ) (word : Word) (words : List Word) → Every (λ t. t ≤ 10000000) o → Every (IsFlex relative) (grow_or_basis relative o word words)
grow_told relative (Some grow) word words h = after_grow_told relative grow words h
grow_told relative None word words h = with_basis_told relative 1000 1000 word words (omega arith) (omega arith)

factors_of_told : (relative : Bool) (words : List Word) → Every (IsFlex relative) (factors_of relative words)
factors_of_told relative [] = tt
factors_of_told relative (word ∷ words) = grow_told relative (factor_of word) word words (factor_told word)

flex_told : (relative : Bool) (words : List Word) → Every (IsFlex relative) (flex_of relative words)
flex_told relative words = every_if (IsFlex relative) (is_alone (codes "none") words) (Some (flex 0 0 (plain_size size.Auto))) (factors_of relative words) (λ _. ((omega arith, omega arith), refl)) (λ _. factors_of_told relative words)

flex_set : (relative : Bool) (f : Flex) → IsFlex relative f → AreSettings relative (flex_settings f)
flex_set relative f h =
    (((λ f. absurd f), factor_is_back relative f.grow h.0.0), (((λ f. absurd f), factor_is_back relative f.shrink h.0.1), (((λ f. absurd f), size_is_back relative basis_form refused.Contents (λ _. tt) tt f.basis h.1), tt)))

parts_told : (relative : Bool) (s : Shorthand) (words : List Word) → Every (AreSettings relative) (parts_of relative s words)
parts_told relative shorthand.GridColumn words =
    every_map (AreSettings relative) (line_settings prop.GridColumnStart prop.GridColumnEnd) (two_lines words) (every_so AreTwo (λ r. AreSettings relative (line_settings prop.GridColumnStart prop.GridColumnEnd r)) (two_lines words) (columns_set relative) (two_lines_told words))
parts_told relative shorthand.GridRow words =
    every_map (AreSettings relative) (line_settings prop.GridRowStart prop.GridRowEnd) (two_lines words) (every_so AreTwo (λ r. AreSettings relative (line_settings prop.GridRowStart prop.GridRowEnd r)) (two_lines words) (rows_set relative) (two_lines_told words))
parts_told relative shorthand.GridArea words = every_map (AreSettings relative) area_settings (four_lines words) (every_so AreFour (λ r. AreSettings relative (area_settings r)) (four_lines words) (area_set relative) (four_lines_told words))
parts_told relative shorthand.Gap words =
    every_map (AreSettings relative) gap_settings (two_sizes relative gap_form words) (every_so (AreTwoSizes relative gap_form) (λ r. AreSettings relative (gap_settings r)) (two_sizes relative gap_form words) (gaps_set relative) (two_sizes_told relative gap_form words))
parts_told relative shorthand.Margin words =
    every_map (AreSettings relative) (side_settings prop.MarginTop prop.MarginRight prop.MarginBottom prop.MarginLeft) (side_sizes relative margin_form words)
    (every_so (AreSides relative margin_form) (λ r. AreSettings relative (side_settings prop.MarginTop prop.MarginRight prop.MarginBottom prop.MarginLeft r)) (side_sizes relative margin_form words) (margins_set relative) (side_sizes_told relative margin_form words))
parts_told relative shorthand.Padding words =
    every_map (AreSettings relative) (side_settings prop.PaddingTop prop.PaddingRight prop.PaddingBottom prop.PaddingLeft) (side_sizes relative edge_form words)
    (every_so (AreSides relative edge_form) (λ r. AreSettings relative (side_settings prop.PaddingTop prop.PaddingRight prop.PaddingBottom prop.PaddingLeft r)) (side_sizes relative edge_form words) (paddings_set relative) (side_sizes_told relative edge_form words))
parts_told relative shorthand.BorderWidth words =
    every_map (AreSettings relative) (side_settings prop.BorderTopWidth prop.BorderRightWidth prop.BorderBottomWidth prop.BorderLeftWidth) (side_sizes relative edge_form words)
    (every_so (AreSides relative edge_form) (λ r. AreSettings relative (side_settings prop.BorderTopWidth prop.BorderRightWidth prop.BorderBottomWidth prop.BorderLeftWidth r)) (side_sizes relative edge_form words) (borders_set relative) (side_sizes_told relative edge_form words))
parts_told relative shorthand.Flex words = every_map (AreSettings relative) flex_settings (flex_of relative words) (every_so (IsFlex relative) (λ r. AreSettings relative (flex_settings r)) (flex_of relative words) (flex_set relative) (flex_told relative words))

-- ---- what a declaration sets

abbrev InProperty : Bool → Property → Type 0
InProperty relative (property.Longhand p) = IsIn relative p
InProperty relative p = ⊤

version_told : (relative : Bool) (p : Property) → InProperty relative (with_version relative p)
version_told true (property.Longhand p) = λ f. refl
version_told true (property.Shorthand s) = tt
version_told true property.Unsupported = tt
version_told false (property.Shorthand s) = tt
version_told false property.Unsupported = tt
version_told false (property.Longhand prop.GridTemplateColumns) = λ f. absurd f
version_told false (property.Longhand prop.GridTemplateRows) = λ f. absurd f
version_told false (property.Longhand prop.GridTemplateAreas) = λ f. absurd f
version_told false (property.Longhand prop.GridAutoColumns) = λ f. absurd f
version_told false (property.Longhand prop.GridAutoRows) = λ f. absurd f
version_told false (property.Longhand prop.GridAutoFlow) = λ f. absurd f
version_told false (property.Longhand prop.GridColumnStart) = λ f. absurd f
version_told false (property.Longhand prop.GridColumnEnd) = λ f. absurd f
version_told false (property.Longhand prop.GridRowStart) = λ f. absurd f
version_told false (property.Longhand prop.GridRowEnd) = λ f. absurd f
version_told false (property.Longhand prop.Order) = λ f. absurd f
version_told false (property.Longhand prop.RowGap) = λ f. absurd f
version_told false (property.Longhand prop.ColumnGap) = λ f. absurd f
version_told false (property.Longhand prop.MarginTop) = λ f. absurd f
version_told false (property.Longhand prop.MarginRight) = λ f. absurd f
version_told false (property.Longhand prop.MarginBottom) = λ f. absurd f
version_told false (property.Longhand prop.MarginLeft) = λ f. absurd f
version_told false (property.Longhand prop.PaddingTop) = λ f. absurd f
version_told false (property.Longhand prop.PaddingRight) = λ f. absurd f
version_told false (property.Longhand prop.PaddingBottom) = λ f. absurd f
version_told false (property.Longhand prop.PaddingLeft) = λ f. absurd f
version_told false (property.Longhand prop.BorderTopWidth) = λ f. absurd f
version_told false (property.Longhand prop.BorderRightWidth) = λ f. absurd f
version_told false (property.Longhand prop.BorderBottomWidth) = λ f. absurd f
version_told false (property.Longhand prop.BorderLeftWidth) = λ f. absurd f
version_told false (property.Longhand prop.Width) = λ f. absurd f
version_told false (property.Longhand prop.Height) = λ f. absurd f
version_told false (property.Longhand prop.MinWidth) = λ f. absurd f
version_told false (property.Longhand prop.MinHeight) = λ f. absurd f
version_told false (property.Longhand prop.MaxWidth) = λ f. absurd f
version_told false (property.Longhand prop.MaxHeight) = λ f. absurd f
version_told false (property.Longhand prop.BoxSizing) = λ f. absurd f
version_told false (property.Longhand prop.Overflow) = λ f. absurd f
version_told false (property.Longhand prop.JustifyContent) = λ f. absurd f
version_told false (property.Longhand prop.AlignContent) = λ f. absurd f
version_told false (property.Longhand prop.JustifyItems) = λ f. absurd f
version_told false (property.Longhand prop.AlignItems) = λ f. absurd f
version_told false (property.Longhand prop.JustifySelf) = λ f. absurd f
version_told false (property.Longhand prop.AlignSelf) = λ f. absurd f
version_told false (property.Longhand prop.FlexDirection) = λ f. absurd f
version_told false (property.Longhand prop.FlexWrap) = λ f. absurd f
version_told false (property.Longhand prop.FlexGrow) = λ f. absurd f
version_told false (property.Longhand prop.FlexShrink) = λ f. absurd f
version_told false (property.Longhand prop.FlexBasis) = λ f. absurd f
version_told false (property.Longhand prop.FontSize) = tt

property_told : (relative : Bool) (word : Word) → Every (InProperty relative) (property_of relative word)
property_told relative word = every_bind (InProperty relative) (λ _. ⊤) (λ p. Some (with_version relative p)) (named properties word) (anything (named properties word)) (λ p _. version_told relative p)

settings_told : (relative : Bool) (p : Property) (words : List Word) → InProperty relative p → Every (AreSettings relative) (settings_of relative p words)
settings_told relative (property.Longhand p) words h =
    every_map (AreSettings relative) (one_setting p) (value_of relative (form_of p) words)
    (every_so (IsBack relative (form_of p) (refused_by_prop p)) (λ v. AreSettings relative (one_setting p v)) (value_of relative (form_of p) words) (λ v b. ((h, b), tt)) (value_told relative p words))
settings_told relative (property.Shorthand s) words h = parts_told relative s words
settings_told relative property.Unsupported words h = tt

abbrev pub EveryOk : {A : Type 0} → (A → Type 0) → Result A Fault → Type 0
EveryOk P (Ok x) = P x
EveryOk P (Err fault) = ⊤

ok_or_bad : {A : Type 0} (P : A → Type 0) (at : Place) (o : Option A) → Every P o → EveryOk P (or_bad at o)
ok_or_bad P at (Some x) h = h
ok_or_bad P at None h = tt

ok_if : {A : Type 0} (P : A → Type 0) (b : Bool) (x y : Result A Fault) → EveryOk P x → EveryOk P y → EveryOk P (if b then x else y)
ok_if P true x y h k = h
ok_if P false x y h k = k

value_at_told : (at : Place) (relative : Bool) (text : List ℕ) (p : Property) (tokens : List Token) → InProperty relative p → EveryOk (AreSettings relative) (value_at at relative text p tokens)
value_at_told at relative text p [] h = tt
value_at_told at relative text p (token ∷ tokens) h =
    ok_if (AreSettings relative) (is_refused relative (refused_by p) (map (word_at text) (token ∷ tokens))) (Err (fault_at 11 (place_after at token.start))) (or_bad (place_after at token.start) (settings_of relative p (map (word_at text) (token ∷ tokens)))) tt
    (ok_or_bad (AreSettings relative) (place_after at token.start) (settings_of relative p (map (word_at text) (token ∷ tokens))) (settings_told relative p (map (word_at text) (token ∷ tokens)) h))

after_told : (at : Place) (relative : Bool) (text : List ℕ) (p : Property) (tokens : List Token) → InProperty relative p → EveryOk (AreSettings relative) (after_property at relative text p tokens)
after_told at relative text p [] h = tt
after_told at relative text p (token ∷ tokens) h = ok_if (AreSettings relative) (bytes_eq (word_at text token) (codes ":")) (value_at at relative text p tokens) (Err (fault_at 9 (place_after at token.start))) (value_at_told at relative text p tokens h) tt

by_told : (at : Place) (relative : Bool) (text : List ℕ) (token : Token) (tokens : List Token) (o : Option Property) → Every (InProperty relative) o → EveryOk (AreSettings relative) (by_property at relative text token tokens o)
by_told at relative text token tokens None h = tt
by_told at relative text token tokens (Some property.Unsupported) h = tt
by_told at relative text token tokens (Some (property.Longhand p)) h = after_told at relative text (property.Longhand p) tokens h
by_told at relative text token tokens (Some (property.Shorthand s)) h = after_told at relative text (property.Shorthand s) tokens h

reading_told : (at : Place) (relative : Bool) (text : List ℕ) (tokens : List Token) → EveryOk (AreSettings relative) (tokens_reading at relative text tokens)
reading_told at relative text [] = tt
reading_told at relative text (token ∷ tokens) = by_told at relative text token tokens (property_of relative (word_at text token)) (property_told relative (word_at text token))

ok_at : {A : Type 0} (P : A → Type 0) (r : Result A Fault) (x : A) → EveryOk P r → r ≡ Ok x → P x
ok_at P r x h e = subst (EveryOk P) e h

one_of : (relative : Bool) (setting : Prop × DeclaredValue) (settings : Settings) → AreSettings relative settings → IsAmong setting settings → IsSetting relative setting
one_of relative setting [] h among = absurd among
one_of relative setting (other ∷ settings) h (inl same) = subst (IsSetting relative) same h.0
one_of relative setting (other ∷ settings) h (inr among) = one_of relative setting settings h.1 among

-- a value that some declaration sets
pub declared_told : (version : ℕ) (p : Prop) (v : DeclaredValue) → IsDeclared version p v → IsSetting (is_relative version) (p, v)
declared_told version p v d =
    one_of (is_relative version) (p, v) d.settings (ok_at (AreSettings (is_relative version)) (declaration version d.at d.text) d.settings (reading_told d.at (is_relative version) d.text (tokens_from 0 d.text)) d.read) d.among

-- ---- read again

no_value : (relative : Bool) (p : Prop) → value_of relative (form_of p) [] ≡ None
no_value relative prop.GridTemplateColumns = refl
no_value relative prop.GridTemplateRows = refl
no_value relative prop.GridTemplateAreas = refl
no_value relative prop.GridAutoColumns = refl
no_value relative prop.GridAutoRows = refl
no_value relative prop.GridAutoFlow = refl
no_value relative prop.GridColumnStart = refl
no_value relative prop.GridColumnEnd = refl
no_value relative prop.GridRowStart = refl
no_value relative prop.GridRowEnd = refl
no_value relative prop.Order = refl
no_value relative prop.RowGap = refl
no_value relative prop.ColumnGap = refl
no_value relative prop.MarginTop = refl
no_value relative prop.MarginRight = refl
no_value relative prop.MarginBottom = refl
no_value relative prop.MarginLeft = refl
no_value relative prop.PaddingTop = refl
no_value relative prop.PaddingRight = refl
no_value relative prop.PaddingBottom = refl
no_value relative prop.PaddingLeft = refl
no_value relative prop.BorderTopWidth = refl
no_value relative prop.BorderRightWidth = refl
no_value relative prop.BorderBottomWidth = refl
no_value relative prop.BorderLeftWidth = refl
no_value relative prop.Width = refl
no_value relative prop.Height = refl
no_value relative prop.MinWidth = refl
no_value relative prop.MinHeight = refl
no_value relative prop.MaxWidth = refl
no_value relative prop.MaxHeight = refl
no_value relative prop.BoxSizing = refl
no_value relative prop.Overflow = refl
no_value relative prop.JustifyContent = refl
no_value relative prop.AlignContent = refl
no_value relative prop.JustifyItems = refl
no_value relative prop.AlignItems = refl
no_value relative prop.JustifySelf = refl
no_value relative prop.AlignSelf = refl
no_value relative prop.FlexDirection = refl
no_value relative prop.FlexWrap = refl
no_value relative prop.FlexGrow = refl
no_value relative prop.FlexShrink = refl
no_value relative prop.FlexBasis = refl
no_value relative prop.FontSize = refl

value_some : (relative : Bool) (p : Prop) (v : DeclaredValue) → IsBack relative (form_of p) (refused_by_prop p) v → value_words v ≡ [] → ⊥
value_some relative p v b e = true≢false (sym (ap is_some (sym (ap (value_of relative (form_of p)) e) ∙ b.reads)) ∙ ap is_some (no_value relative p))

abbrev word_or : Word → List Word → Word
word_or word [] = word
word_or word (first ∷ words) = first

abbrev words_past : List Word → List Word
words_past [] = []
words_past (first ∷ words) = words

abbrev is_done : List Word → Bool
is_done [] = true
is_done (word ∷ words) = false

value_tokens : (at : Place) (relative : Bool) (text : List ℕ) (p : Prop) (v : DeclaredValue) (tokens : List Token) → IsBack relative (form_of p) (refused_by_prop p) v → map (word_at text) tokens ≡ value_words v
    → value_at at relative text (property.Longhand p) tokens ≡ Ok ((p, v) ∷ [])
value_tokens at relative text p v [] b e = absurd (value_some relative p v b (sym e))
value_tokens at relative text p v (token ∷ tokens) b e =
    ap (value_reading (place_after at token.start) relative (property.Longhand p)) e
    ∙ ap (λ (t : Bool). if t then Err (fault_at 11 (place_after at token.start)) else or_bad (place_after at token.start) (settings_of relative (property.Longhand p) (value_words v))) b.quiet
    ∙ ap (λ (o : Option DeclaredValue). or_bad (place_after at token.start) (option_map (one_setting p) o)) b.reads

after_tokens : (at : Place) (relative : Bool) (text : List ℕ) (p : Prop) (v : DeclaredValue) (tokens : List Token) → IsBack relative (form_of p) (refused_by_prop p) v → map (word_at text) tokens ≡ codes ":" ∷ value_words v
    → after_property at relative text (property.Longhand p) tokens ≡ Ok ((p, v) ∷ [])
after_tokens at relative text p v [] b e = absurd (true≢false (ap is_done e))
after_tokens at relative text p v (token ∷ tokens) b e =
    ap (λ (w : Word). if bytes_eq w (codes ":") then value_at at relative text (property.Longhand p) tokens else Err (fault_at 9 (place_after at token.start))) (ap (word_or []) e)
    ∙ value_tokens at relative text p v tokens b (ap words_past e)

all_tokens : (at : Place) (relative : Bool) (text : List ℕ) (p : Prop) (v : DeclaredValue) (tokens : List Token) → IsSetting relative (p, v) → map (word_at text) tokens ≡ declaration_words p v
    → tokens_reading at relative text tokens ≡ Ok ((p, v) ∷ [])
all_tokens at relative text p v [] s e = absurd (true≢false (ap is_done e))
all_tokens at relative text p v (token ∷ tokens) s e =
    ap (λ (w : Word). by_property at relative text token tokens (property_of relative w)) (ap (word_or []) e)
    ∙ ap (by_property at relative text token tokens) (property_back relative p s.0)
    ∙ after_tokens at relative text p v tokens s.1 (ap words_past e)

property_token : (p : Prop) → is_token (property_word p) ≡ true
property_token prop.GridTemplateColumns = refl
property_token prop.GridTemplateRows = refl
property_token prop.GridTemplateAreas = refl
property_token prop.GridAutoColumns = refl
property_token prop.GridAutoRows = refl
property_token prop.GridAutoFlow = refl
property_token prop.GridColumnStart = refl
property_token prop.GridColumnEnd = refl
property_token prop.GridRowStart = refl
property_token prop.GridRowEnd = refl
property_token prop.Order = refl
property_token prop.RowGap = refl
property_token prop.ColumnGap = refl
property_token prop.MarginTop = refl
property_token prop.MarginRight = refl
property_token prop.MarginBottom = refl
property_token prop.MarginLeft = refl
property_token prop.PaddingTop = refl
property_token prop.PaddingRight = refl
property_token prop.PaddingBottom = refl
property_token prop.PaddingLeft = refl
property_token prop.BorderTopWidth = refl
property_token prop.BorderRightWidth = refl
property_token prop.BorderBottomWidth = refl
property_token prop.BorderLeftWidth = refl
property_token prop.Width = refl
property_token prop.Height = refl
property_token prop.MinWidth = refl
property_token prop.MinHeight = refl
property_token prop.MaxWidth = refl
property_token prop.MaxHeight = refl
property_token prop.BoxSizing = refl
property_token prop.Overflow = refl
property_token prop.JustifyContent = refl
property_token prop.AlignContent = refl
property_token prop.JustifyItems = refl
property_token prop.AlignItems = refl
property_token prop.JustifySelf = refl
property_token prop.AlignSelf = refl
property_token prop.FlexDirection = refl
property_token prop.FlexWrap = refl
property_token prop.FlexGrow = refl
property_token prop.FlexShrink = refl
property_token prop.FlexBasis = refl
property_token prop.FontSize = refl

pub value_token_is : (word : Word) → is_value_token word ≡ true → is_token word ≡ true
value_token_is [] h = h
value_token_is (byte ∷ bytes) h = by_mark (list_any (λ mark. byte == mark) (codes "()[],")) refl where
  by_mark : (b : Bool) → list_any (λ mark. byte == mark) (codes "()[],") ≡ b → is_token (byte ∷ bytes) ≡ true
  by_mark true e =
      let m : is_mark byte ≡ true = any_yes byte is_mark (codes "()[],") refl e in
      ap (λ (b : Bool). (b && is_nil bytes) || list_all is_plain (byte ∷ bytes)) m ∙ ap (λ (b : Bool). (b && is_nil bytes) || list_all is_plain (byte ∷ bytes)) (sym e) ∙ h
  by_mark false e = or_right (is_mark byte && is_nil bytes) (list_all is_plain (byte ∷ bytes)) (ap (λ (b : Bool). (b && is_nil bytes) || list_all is_plain (byte ∷ bytes)) (sym e) ∙ h)

pub value_tokens_are : (words : List Word) → list_all is_value_token words ≡ true → are_tokens words ≡ true
value_tokens_are [] h = refl
value_tokens_are (word ∷ words) h =
    let parts = and_parts (is_value_token word) (list_all is_value_token words) h in
    and_from (is_token word) (are_tokens words) (value_token_is word parts.0) (value_tokens_are words parts.1)

pub declaration_tokens : (relative : Bool) (p : Prop) (v : DeclaredValue) → IsSetting relative (p, v) → are_tokens (declaration_words p v) ≡ true
declaration_tokens relative p v s = and_from (is_token (property_word p)) (are_tokens (value_words v)) (property_token p) (value_tokens_are (value_words v) s.1.tokens)

-- a declaration that is written sets the value
pub declaration_back : (version : ℕ) (at : Place) (last : ℕ) (p : Prop) (v : DeclaredValue) (rest : List ℕ) → IsSetting (is_relative version) (p, v) → word_goes_on rest ≡ false → cuts rest ≡ []
    → declaration version at (words_after last (declaration_words p v) ++ rest) ≡ Ok ((p, v) ∷ [])
declaration_back version at last p v rest s g n =
    let text : List ℕ = words_after last (declaration_words p v) ++ rest in
    all_tokens at (is_relative version) text p v (tokens_from 0 text) s (words_back last (declaration_words p v) rest (declaration_tokens (is_relative version) p v s) g n)

-- a value that some declaration sets is set by the declaration that is written of it
pub declared_back : (version : ℕ) (at : Place) (p : Prop) (v : DeclaredValue) → IsDeclared version p v → declaration version at (words_text (declaration_words p v)) ≡ Ok ((p, v) ∷ [])
declared_back version at p v d =
    ap (declaration version at) (sym (append-nil (words_text (declaration_words p v)))) ∙ declaration_back version at 32 p v [] (declared_told version p v d) refl refl
