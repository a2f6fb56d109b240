-- What a text can tell: the sizes, the declarations and the nodes of a generated document.
use Rattle.std.proofs.Common.{◌≡◌, refl, sym, ap, ◌∙◌, ℕ, ℤ, pos, negsuc, zero, suc, ◌+◌, ◌*◌, ◌/◌, ◌%◌, ◌^◌, ◌<◌, ◌≤◌, ◌⊎◌, inl, inr, Bool, true, false, ◌&&◌, List, [], ◌∷◌, ◌++◌, Option, Some, None, Ok, arith}
use Rattle.std.specs.Prelude.{codes, ◌==◌}
use Rattle.std.specs.FinMap as map
use Rattle.std.proofs.lemmas.Bool.{true≢false, eqb-true, leb-true, cases_eq}
use Rattle.std.proofs.lemmas.Option.{none-some}
use Rattle.text_scan.specs.declared.line.Place.{Place}
use Rattle.style_types.specs.Order.{prop_cmp}
use Rattle.style_types.specs.declared.prop.Prop.TheVariants as prop
use Rattle.style_types.specs.declared.value.Value.TheVariants as value
use Rattle.value_text.specs.Declarations.{declaration}
use Rattle.value_text.specs.ValueText.{Settings}
use Rattle.value_text.specs.Properties.{properties as property_rows, properties_2, properties_3, properties_4, properties_5, properties_6, properties_7, properties_8, properties_9, properties_10}
use Rattle.value_text.specs.Lines.{name_of as line_name_of, line_number, span_count}
use Rattle.value_text.specs.Sizes.{size_of}
use Rattle.doc_text.specs.NodeText.{with_settings}
use Rattle.doc_text.specs.Texts.{Word}
use Rattle.doc_text.specs.Tokens.{size_of_word}
use Rattle.doc_text.specs.Valid.{IsTold, IsToldKind, IsDeclared, IsToldStyle, IsToldLabel}
use Rattle.doc_text.proofs.Told.{AllDeclared, settings_told, read_declared}
use Rattle.page_maker.specs.declared.choice.Choice.{Choice}
use Rattle.page_maker.specs.declared.choice.Choice.TheVariants as choice
use Rattle.page_maker.specs.Choices.{IsDrawn}
use Rattle.page_maker.specs.Nodes.{px, setting, repeated_columns, both_gaps, two_columns_wide, lent_columns, wrapping, column_gap, shared_columns, row_gap, both, kind_of, style_of, node_label}
use Rattle.page_maker.proofs.Naming.{is_a_name}

-- ---- sizes

-- the number in two digits
abbrev two_digits : ℕ → Word
two_digits n = (48 + n / 10) ∷ (48 + n % 10) ∷ []

abbrev is_size : ℕ → Option ℤ → Bool
is_size n None = false
is_size n (Some (pos m)) = m == n
is_size n (Some (negsuc m)) = false

abbrev is_read : ℕ → Bool
is_read n = is_size (64 * n) (size_of_word (two_digits n))

-- the numbers below some are read
abbrev are_read : ℕ → Bool
are_read zero = true
are_read (suc n) = is_read n && are_read n

fifty_read : are_read 51 ≡ true
unfolding size_of_word
fifty_read = refl

both_parts : (a b : Bool) → (a && b) ≡ true → (a ≡ true) × (b ≡ true)
both_parts true b h = (refl, h)
both_parts false b h = absurd (true≢false (sym h))

one_read : (count n : ℕ) → n < count → are_read count ≡ true → is_read n ≡ true
one_read zero n l h = absurd (omega arith)
one_read (suc count) n l h =
    let parts = both_parts (is_read count) (are_read count) h in
    by_place (cases_eq n count) parts.0 (λ k. one_read count n k parts.1)
  where
    by_place : (n ≡ count) ⊎ (n ≡ count → ⊥) → is_read count ≡ true → (n < count → is_read n ≡ true) → is_read n ≡ true
    by_place (inl e) here below = ap is_read e ∙ here
    by_place (inr d) here below = below (omega (arith, l, d))

size_is : (n : ℕ) (found : Option ℤ) → is_size n found ≡ true → found ≡ Some (pos n)
size_is n None h = absurd (true≢false (sym h))
size_is n (Some (pos m)) h = ap (λ (k : ℕ). Some (pos k)) (eqb-true m n h)
size_is n (Some (negsuc m)) h = absurd (true≢false (sym h))

-- up to 50 px
pub px_told : (n : ℕ) → n ≤ 50 → IsTold (px n)
px_told n h = record { word = two_digits n; told = size_is (64 * n) (size_of_word (two_digits n)) (one_read 51 n (omega (arith, h)) fifty_read) }

width_read : size_of_word (codes "1000") ≡ Some (px 1000)
unfolding size_of_word
width_read = refl

pub width_told : IsTold (px 1000)
width_told = record { word = codes "1000"; told = width_read }

height_read : size_of_word (codes "600") ≡ Some (px 600)
unfolding size_of_word
height_read = refl

pub height_told : IsTold (px 600)
height_told = record { word = codes "600"; told = height_read }

pub kind_told : (c : Choice) → IsDrawn c → IsToldKind (kind_of c)
kind_told choice.Root d = tt
kind_told choice.Lent d = tt
kind_told choice.Wrapping d = tt
kind_told choice.Columns d = tt
kind_told (choice.Fixed w h) d = (px_told w d.0, px_told h d.1)
kind_told (choice.Words a b c e f) d =
    (px_told 12 (omega arith), (px_told 3 (omega arith), ((px_told a d.0, (px_told b d.1.0, (px_told c d.1.1.0, (px_told e d.1.1.1.0, (px_told f d.1.1.1.1, tt))))), leb-true 5 65536 refl)))

-- ---- declarations

abbrev origin : Place
origin = record { line = 1; column = 1 }

-- the declaration of version 1 that a text is
abbrev Reads : List ℕ → Settings → Type 0
Reads text settings = declaration 1 origin text ≡ Ok settings

repeated_columns_read : Reads (codes "grid-template-columns: repeat(auto-fill, minmax(100px, 1fr))") repeated_columns
unfolding property_rows properties_2 properties_3 properties_4 properties_5 properties_6 properties_7 properties_8 properties_9 properties_10 line_name_of line_number span_count size_of
repeated_columns_read = refl

both_gaps_read : Reads (codes "gap: 4px") both_gaps
unfolding property_rows properties_2 properties_3 properties_4 properties_5 properties_6 properties_7 properties_8 properties_9 properties_10 line_name_of line_number span_count size_of
both_gaps_read = refl

two_columns_wide_read : Reads (codes "grid-column: span 2") two_columns_wide
unfolding property_rows properties_2 properties_3 properties_4 properties_5 properties_6 properties_7 properties_8 properties_9 properties_10 line_name_of line_number span_count size_of
two_columns_wide_read = refl

lent_columns_read : Reads (codes "grid-template-columns: subgrid") lent_columns
unfolding property_rows properties_2 properties_3 properties_4 properties_5 properties_6 properties_7 properties_8 properties_9 properties_10 line_name_of line_number span_count size_of
lent_columns_read = refl

wrapping_read : Reads (codes "flex-wrap: wrap") wrapping
unfolding property_rows properties_2 properties_3 properties_4 properties_5 properties_6 properties_7 properties_8 properties_9 properties_10 line_name_of line_number span_count size_of
wrapping_read = refl

column_gap_read : Reads (codes "column-gap: 2px") column_gap
unfolding property_rows properties_2 properties_3 properties_4 properties_5 properties_6 properties_7 properties_8 properties_9 properties_10 line_name_of line_number span_count size_of
column_gap_read = refl

shared_columns_read : Reads (codes "grid-template-columns: 1fr 2fr") shared_columns
unfolding property_rows properties_2 properties_3 properties_4 properties_5 properties_6 properties_7 properties_8 properties_9 properties_10 line_name_of line_number span_count size_of
shared_columns_read = refl

row_gap_read : Reads (codes "row-gap: 3px") row_gap
unfolding property_rows properties_2 properties_3 properties_4 properties_5 properties_6 properties_7 properties_8 properties_9 properties_10 line_name_of line_number span_count size_of
row_gap_read = refl

orders_read : (o : ℕ) → o < 5 → Reads (codes "order: " ++ (48 + o) ∷ []) (setting prop.Order (value.Order (pos o)) [] ∷ [])
unfolding property_rows properties_2 properties_3 properties_4 properties_5 properties_6 properties_7 properties_8 properties_9 properties_10 line_name_of line_number span_count size_of
orders_read zero h = refl
orders_read (suc zero) h = refl
orders_read (suc (suc zero)) h = refl
orders_read (suc (suc (suc zero))) h = refl
orders_read (suc (suc (suc (suc zero)))) h = refl
orders_read (suc (suc (suc (suc (suc o))))) h = absurd (omega (arith, h))

-- a container's other order
pub order_told : (o : ℕ) → o < 5 → IsDeclared 1 prop.Order (record { value = value.Order (pos o); units = [] })
order_told o h = record { at = origin; text = codes "order: " ++ (48 + o) ∷ []; short = leb-true 8 65536 refl; settings = setting prop.Order (value.Order (pos o)) [] ∷ []; read = orders_read o h; among = inl refl }

nothing_told : IsToldStyle 1 map.empty
nothing_told p v e = absurd (none-some v (sym (map.get-empty prop_cmp p) ∙ e))

both_told : (first second : Settings) → AllDeclared 1 first → AllDeclared 1 second → IsToldStyle 1 (both first second)
both_told first second f s = settings_told 1 second (with_settings first map.empty) s (settings_told 1 first map.empty f nothing_told)

pub style_told : (c : Choice) → IsToldStyle 1 (style_of c)
unfolding style_of
style_told choice.Root = both_told repeated_columns both_gaps
    (read_declared 1 origin (codes "grid-template-columns: repeat(auto-fill, minmax(100px, 1fr))") repeated_columns (leb-true 60 65536 refl) repeated_columns_read)
    (read_declared 1 origin (codes "gap: 4px") both_gaps (leb-true 8 65536 refl) both_gaps_read)
style_told choice.Lent = both_told two_columns_wide lent_columns
    (read_declared 1 origin (codes "grid-column: span 2") two_columns_wide (leb-true 19 65536 refl) two_columns_wide_read)
    (read_declared 1 origin (codes "grid-template-columns: subgrid") lent_columns (leb-true 30 65536 refl) lent_columns_read)
style_told choice.Wrapping = both_told wrapping column_gap
    (read_declared 1 origin (codes "flex-wrap: wrap") wrapping (leb-true 15 65536 refl) wrapping_read)
    (read_declared 1 origin (codes "column-gap: 2px") column_gap (leb-true 15 65536 refl) column_gap_read)
style_told choice.Columns = both_told shared_columns row_gap
    (read_declared 1 origin (codes "grid-template-columns: 1fr 2fr") shared_columns (leb-true 30 65536 refl) shared_columns_read)
    (read_declared 1 origin (codes "row-gap: 3px") row_gap (leb-true 12 65536 refl) row_gap_read)
style_told (choice.Fixed w h) = nothing_told
style_told (choice.Words a b c d e) = nothing_told

-- ---- nodes

pub label_told : (i : ℕ) (c : Choice) → i < 2 ^ 64 → IsDrawn c → IsToldLabel 1 (node_label i c)
label_told i c h d = record { named = is_a_name i h; kind = kind_told c d; style = style_told c }
