-- Lines against what is kept of them.
use Rattle.std.proofs.Common.{◌≡◌, ℕ, zero, suc, ℤ, pos, negsuc, ◌+◌, ◌*◌, ◌/◌, ◌%◌, ◌^◌, ◌<◌, ◌≤◌, Bool, true, false, ◌||◌, if◌then◌else◌, nat_lt, unsigned_abs, List, [], ◌∷◌, ◌++◌, length, take, decimal, refl, ap, sym, ◌∙◌, arith, inl, inr, ◌⊎◌, Option, Result, Ok, Err, IfErr, subst, drop, get_or, ◌≤ℤ◌}
use Rattle.std.specs.List.{list_all}
use Rattle.std.proofs.lemmas.Bool.{cases_lt, lt-ltb, le-ltb}
use Rattle.std.proofs.lemmas.Int.{ints}
use Rattle.std.proofs.lemmas.List.{append-nil, drop_all, take_all, length-take-le, length-append}
use Rattle.std.proofs.lemmas.Fmt.{length-decimal-le}
use Rattle.std.proofs.Math.Nat.{div-le_self}
use Rattle.lunit.specs.Printed.{six_digits, is_zero_digit, without_last_zeros, after_point, minus_of}
use Rattle.lunit.specs.Units.{IsUnits}
use Rattle.plain_tree.specs.Trees.{Trees, height_of}
use Rattle.doc_text.specs.declared.document.Plain.{Plain}
use Rattle.style_types.specs.declared.declared.DeclaredValue.{DeclaredValue}
use Rattle.style_types.specs.declared.prop.Prop.{Prop}
use Rattle.doc_text.specs.declared.kind.Kind.{Kind}
use Rattle.doc_text.specs.Label.{Label}
use Rattle.doc_text.specs.View.{label_of, trees_of}
use Rattle.doc_text.proofs.Nodes.{trees_of-drop}
use Rattle.std.specs.FinMap as map
use Rattle.track_text.specs.Words.{Word}
use Rattle.doc_writer.specs.declared.errors.WriteError.{WriteError}
use Rattle.doc_writer.specs.declared.errors.WriteError.TheVariants as error
use Rattle.doc_writer.specs.Documents.{NodeLine, indent, kind_words, style_words, node_words, node_line, line_of, lines_of, ended, with_lines, version_words, viewport_words, IsDue}
use Rattle.doc_writer.specs.Numbers.{decimals, number}
use Rattle.doc_writer.specs.Spaces.{ends_joined, begins_joined, gap, last_or, words_after, words_text, put}
use Rattle.doc_writer.proofs.Kept.{last_spaces}

-- ---- how long words are

few_kept : (ds : List ℕ) → length (without_last_zeros ds) ≤ length ds
few_kept [] = omega arith
few_kept (d ∷ ds) = by_zeros (list_all is_zero_digit (d ∷ ds)) (few_kept ds) where
  by_zeros : (b : Bool) → length (without_last_zeros ds) ≤ length ds → length (if b then [] else d ∷ without_last_zeros ds) ≤ length (d ∷ ds)
  by_zeros true h = omega arith
  by_zeros false h = omega (arith, h)

point_length : (f : List ℕ) → length (after_point f) ≤ 1 + length f
point_length [] = omega arith
point_length (d ∷ f) = omega arith

minus_length : (z : ℤ) → length (minus_of z) ≤ 1
minus_length (pos n) = omega arith
minus_length (negsuc n) = omega arith

decimals_length : (scale parts : ℕ) → length (decimals scale parts) ≤ 7
decimals_length scale parts =
    let ds : List ℕ = six_digits (parts * (1000000 / scale)) in
    omega (arith, point_length (without_last_zeros ds), few_kept ds)

number_parts : (scale : ℕ) (z : ℤ) → number scale z ≡ minus_of z ++ decimal (unsigned_abs z / scale) ++ decimals scale (unsigned_abs z % scale)
unfolding number
number_parts scale z = refl

pub number_length : (scale : ℕ) (z : ℤ) → unsigned_abs z / scale < 2 ^ 64 → length (number scale z) ≤ 28
number_length scale z h =
    let q : ℕ = unsigned_abs z / scale in
    let few : length (decimal q) ≤ 20 = length-decimal-le 20 q (omega arith) (omega (arith, h)) h in
    omega (arith, ap length (number_parts scale z), few, minus_length z, decimals_length scale (unsigned_abs z % scale), length-append (minus_of z ++ decimal q) (decimals scale (unsigned_abs z % scale)), length-append (minus_of z) (decimal q))

abbrev pub total : List Word → ℕ
total [] = 0
total (word ∷ words) = 1 + (length word + total words)

gap_length : (last : ℕ) (word : Word) → length (gap last word) ≤ 1
gap_length last [] = omega arith
gap_length last (byte ∷ word) = by_test (ends_joined last || begins_joined byte) where
  by_test : (b : Bool) → length {A = ℕ} (if b then [] else 32 ∷ []) ≤ 1
  by_test true = omega arith
  by_test false = omega arith

pub after_length : (last : ℕ) (words : List Word) → length (words_after last words) ≤ total words
after_length last [] = omega arith
after_length last (word ∷ words) =
    omega (arith, gap_length last word, after_length (last_or last word) words, length-append (gap last word) (word ++ words_after (last_or last word) words), length-append word (words_after (last_or last word) words))

-- ---- header lines

short_text : (words : List Word) → total words ≤ 65537 → put [] words ≡ words_text words
unfolding put
short_text [] h = refl
short_text (word ∷ words) h = take_all 65537 (words_after 32 (word ∷ words)) (omega (arith, after_length 32 (word ∷ words), h))

pub small_whole : (n k : ℕ) → n < 2 ^ 64 → n / k < 2 ^ 64
small_whole n k h = omega (arith, h, div-le_self n k)

pub version_line : (version : ℕ) → version < 256 → put [] (version_words version) ≡ words_text (version_words version)
version_line version h =
    short_text (version_words version) (omega (arith, number_length 1 (pos version) (small_whole version 1 (omega (arith, h)))))

units_small : (z : ℤ) → IsUnits z → unsigned_abs z < 2 ^ 64
units_small (pos n) u = let h : pos n ≤ℤ pos 1073741824 = u.1 in omega (arith, ints, h)
units_small (negsuc n) u = let h : negsuc 1073741823 ≤ℤ negsuc n = u.0 in omega (arith, ints, h)

pub viewport_line : (width height : ℤ) → IsUnits width → IsUnits height → put [] (viewport_words width height) ≡ words_text (viewport_words width height)
viewport_line width height w h =
    short_text (viewport_words width height)
    (omega (arith, number_length 64 width (small_whole (unsigned_abs width) 64 (units_small width w)), number_length 64 height (small_whole (unsigned_abs height) 64 (units_small height h))))

-- ---- lines of nodes

put_indented : (level : ℕ) (word : Word) (words : List Word) → put (indent level) (word ∷ words) ≡ take 65537 (indent level ++ words_text (word ∷ words))
unfolding put
put_indented level word words = ap (λ (last : ℕ). take 65537 (indent level ++ words_after last (word ∷ words))) (last_spaces (2 * level))

-- what is kept of a line is too long exactly where the line is
pub record Keeps (kept line : List ℕ) : Type 0 where
  pub long : 65536 < length kept → 65536 < length line
  pub short : length kept ≤ 65536 → kept ≡ line

keeps : (line : List ℕ) → Keeps (take 65537 line) line
keeps line = by_length (cases_lt 65537 (length line)) where
  by_length : (65537 < length line) ⊎ (length line ≤ 65537) → Keeps (take 65537 line) line
  by_length (inl more) = record {
    long = λ h. omega (arith, more);
    short = λ h. absurd (omega (arith, h, length-take-le 65537 line (omega (arith, more))));
  }
  by_length (inr few) = record {
    long = λ h. omega (arith, h, ap length (take_all 65537 line few));
    short = λ h. take_all 65537 line few;
  }

abbrev pub Values : Type 0
Values = Prop → Option DeclaredValue

node_keeps : (level : ℕ) (name : Word) (kind : Kind) (value : Values) → Keeps (put (indent level) (node_words name kind value)) (node_line level name kind value)
node_keeps level name kind value =
    subst (λ (kept : List ℕ). Keeps kept (node_line level name kind value)) (sym (put_indented level name (kind_words kind ++ style_words value))) (keeps (node_line level name kind value))

pub node_long : (text kept : List ℕ) (level : ℕ) (label : Label) → kept ≡ put (indent level) (node_words label.name label.kind (map.get label.style)) → 65536 < length kept
    → with_lines text (line_of level label ∷ []) ≡ Err label.name
node_long text kept level label e h =
    let line : List ℕ = node_line level label.name label.kind (map.get label.style) in
    let k = node_keeps level label.name label.kind (map.get label.style) in
    ap (λ (b : Bool). if b then Err label.name else Ok (text ++ ended line)) (lt-ltb 65536 (length line) (k.long (omega (arith, h, ap length e))))

pub node_short : (text kept more : List ℕ) (level : ℕ) (label : Label) → kept ≡ put (indent level) (node_words label.name label.kind (map.get label.style)) → length kept ≤ 65536 → more ≡ text ++ ended kept
    → with_lines text (line_of level label ∷ []) ≡ Ok more
node_short text kept more level label e h a =
    let line : List ℕ = node_line level label.name label.kind (map.get label.style) in
    let k = node_keeps level label.name label.kind (map.get label.style) in
    let same : kept ≡ line = e ∙ k.short (omega (arith, h, ap length e)) in
    ap (λ (b : Bool). if b then Err label.name else Ok (text ++ ended line)) (le-ltb 65536 (length line) (omega (arith, h, ap length same)))
    ∙ ap (λ (l : List ℕ). Ok (text ++ ended l)) (sym same)
    ∙ ap Ok (sym a)

pub ruleset node_lines = (node_long, node_short)

-- ---- the lines of some nodes, then those of others

abbrev followed : Result (List ℕ) Word → List NodeLine → Result (List ℕ) Word
followed (Ok text) lines = with_lines text lines
followed (Err name) lines = Err name

with-append : (text : List ℕ) (lines more : List NodeLine) → with_lines text (lines ++ more) ≡ followed (with_lines text lines) more
with-append text [] more = refl
with-append text (line ∷ lines) more = by_test (nat_lt 65536 (length line.text)) (with-append (text ++ ended line.text) lines more) where
  by_test : (b : Bool) → with_lines (text ++ ended line.text) (lines ++ more) ≡ followed (with_lines (text ++ ended line.text) lines) more
      → (if b then Err line.name else with_lines (text ++ ended line.text) (lines ++ more)) ≡ followed (if b then Err line.name else with_lines (text ++ ended line.text) lines) more
  by_test true h = refl
  by_test false h = h

lines-drop : (level : ℕ) (nodes : List Plain) (i : ℕ) (d : Plain) → i < length nodes → lines_of level (trees_of (drop i nodes)) ≡ lines_of level (trees_of (get_or nodes i d ∷ [])) ++ lines_of level (trees_of (drop (i + 1) nodes))
lines-drop level nodes i d h =
    let node : Plain = get_or nodes i d in
    ap (lines_of level) (trees_of-drop nodes i d h)
    ∙ ap (λ (below : List NodeLine). line_of level (label_of node) ∷ (below ++ lines_of level (trees_of (drop (i + 1) nodes)))) (sym (append-nil (lines_of (level + 1) node.children)))

pub child_written : (text new : List ℕ) (level : ℕ) (nodes : List Plain) (i : ℕ) (node : Plain) → i < length nodes → node ≡ get_or nodes i node → with_lines text (lines_of level (trees_of (node ∷ []))) ≡ Ok new
    → with_lines new (lines_of level (trees_of (drop (i + 1) nodes))) ≡ with_lines text (lines_of level (trees_of (drop i nodes)))
child_written text new level nodes i node h s e =
    sym (ap (with_lines text) (lines-drop level nodes i node h)
    ∙ with-append text (lines_of level (trees_of (get_or nodes i node ∷ []))) (lines_of level (trees_of (drop (i + 1) nodes)))
    ∙ ap (λ (r : Result (List ℕ) Word). followed r (lines_of level (trees_of (drop (i + 1) nodes)))) (ap (λ (n : Plain). with_lines text (lines_of level (trees_of (n ∷ [])))) (sym s) ∙ e))

pub child_stopped : (text : List ℕ) (level : ℕ) (nodes : List Plain) (i : ℕ) (node : Plain) (e : WriteError) → i < length nodes → node ≡ get_or nodes i node → IsDue e (with_lines text (lines_of level (trees_of (node ∷ []))))
    → IsDue e (with_lines text (lines_of level (trees_of (drop i nodes))))
child_stopped text level nodes i node error.NoMemory h s d = tt
child_stopped text level nodes i node (error.TooLong name) h s d =
    ap (with_lines text) (lines-drop level nodes i node h)
    ∙ with-append text (lines_of level (trees_of (get_or nodes i node ∷ []))) (lines_of level (trees_of (drop (i + 1) nodes)))
    ∙ ap (λ (r : Result (List ℕ) Word). followed r (lines_of level (trees_of (drop (i + 1) nodes)))) (ap (λ (n : Plain). with_lines text (lines_of level (trees_of (n ∷ [])))) (sym s) ∙ d)

pub none_left : (text : List ℕ) (level : ℕ) (nodes : List Plain) (i : ℕ) → length nodes ≤ i → with_lines text (lines_of level (trees_of (drop i nodes))) ≡ Ok text
none_left text level nodes i h = ap (λ (left : List Plain). with_lines text (lines_of level (trees_of left))) (drop_all i nodes h)

-- an error that is handed on
pub handed_on : {A : Type 0} (r : Result A WriteError) (x e : WriteError) (due other : Result (List ℕ) Word) → r ≡ Err x → x ≡ e → due ≡ other → IsDue e due → IfErr r (λ f. IsDue f other)
handed_on {A} r x e due other p q d h =
    subst (λ (s : Result A WriteError). IfErr s (λ f. IsDue f other)) (sym p) (subst (λ (f : WriteError). IsDue f other) (sym q) (subst (IsDue e) d h))

-- ---- levels

pub child_lower : (nodes : List Plain) (i : ℕ) (node : Plain) → i < length nodes → node ≡ get_or nodes i node → 1 + height_of node.children ≤ height_of (trees_of nodes)
child_lower [] i node h e = absurd (omega (arith, h))
child_lower (x ∷ nodes) zero node h e = omega (arith, ap (λ (n : Plain). height_of n.children) e)
child_lower (x ∷ nodes) (suc i) node h e = omega (arith, child_lower nodes i node (omega (arith, h)) e)
