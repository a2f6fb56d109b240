-- A document that is read is valid.
use Rattle.std.proofs.Common.{◌≡◌, ℕ, ℤ, ◌+◌, ◌<◌, Bool, true, false, not, ◌||◌, ◌&&◌, inl, inr, List, [], ◌∷◌, Option, Some, None, Result, Ok, Err, refl, ap, sym, subst, ◌∙◌, if◌then◌else◌, arith}
use Rattle.std.specs.Prelude.{codes, nat_lt, nat_le, ◌==◌, ◌/◌, IfOk}
use Rattle.std.specs.Str.{bytes_eq}
use Rattle.std.proofs.lemmas.Bool.{true≢false, false≢true, ltb-true, leb-false}
use Rattle.std.proofs.lemmas.Option.{none-some, same_Some}
use Rattle.text_scan.specs.declared.line.Fault.{Fault}
use Rattle.text_scan.specs.declared.line.Line.{Line}
use Rattle.text_scan.specs.declared.line.Place.{Place}
use Rattle.text_scan.specs.Tokens.{is_skipped}
use Rattle.lunit.specs.Names.{is_name}
use Rattle.track_text.specs.declared.errors.ReadError.{ReadError}
use Rattle.track_text.specs.Gives.{Reads, fault_at}
use Rattle.track_text.specs.Words.{bind}
use Rattle.plain_tree.specs.Trees.{Trees, leafless, tree, size_of, EachLabel}
use Rattle.doc_text.specs.declared.document.Doc.{Doc}
use Rattle.doc_text.specs.Label.{Label}
use Rattle.doc_text.specs.Texts.{Word, Text, first_word, word_place, after_word, is_word, is_ended, spaces_of, text_of, due, ◌>>=◌}
use Rattle.doc_text.specs.Tokens.{size_of_word, name_first}
use Rattle.doc_text.specs.NodeText.{node_text}
use Rattle.doc_text.specs.Growth.{holds, open_levels, parent_on, put_last}
use Rattle.doc_text.specs.Documents.{from_counted, version_word, version_in, sizes_in, viewport_in, header, node_limit, child_count, has_room, is_leaf_node, standing, label_with, node_on, is_indent, node_in, node_of, nodes_of, rooted, sized, headed, document_of}
use Rattle.doc_text.specs.Edits.{are_too_many}
use Rattle.doc_text.specs.Valid.{IsShaped, IsTold, IsToldLabel, IsVersion, IsValid, IsShort, AreShort}
use Rattle.doc_text.proofs.Grown.{each_put, size_put, height_put, few_put, containers_put, distinct_put, not_true}
use Rattle.doc_text.proofs.Short.{Fits, line_fits, counted_short}
use Rattle.doc_text.proofs.Told.{both, ok-not-err, same-ok, name_fits, node_told}

-- ---- a node that may stand
unless : {A : Type 0} (b : Bool) (fault : Fault) (rest : Result A Fault) (a : A) → (if b then Err fault else rest) ≡ Ok a → (b ≡ false) × (rest ≡ Ok a)
unless true fault rest a e = absurd (ok-not-err _ _ e)
unless false fault rest a e = (refl, e)

and_parts : (a b : Bool) → (a && b) ≡ true → (a ≡ true) × (b ≡ true)
and_parts true b h = (refl, h)
and_parts false b h = absurd (false≢true h)

not_false : (b : Bool) → not b ≡ false → b ≡ true
not_false true h = refl
not_false false h = absurd (true≢false h)

few_of : (second : Bool) (n : ℕ) → (not second || nat_lt n 65536) ≡ true → (second && nat_lt 65536 (n + 1)) ≡ false
few_of false n h = refl
few_of true n h = not_true _ (λ e. absurd (let f : n < 65536 = ltb-true n 65536 h in let g : 65536 < n + 1 = ltb-true 65536 (n + 1) e in omega (arith, f, g)))

record Stands (version level : ℕ) (name : Word) (trees : Trees Label) : Type 0 where
  pub new : holds trees name ≡ false
  pub deep : level < 64
  pub room : size_of trees < node_limit version
  pub few : are_too_many version (child_count (parent_on level trees) + 1) ≡ false
  pub free : is_leaf_node (parent_on level trees) ≡ false

stands : (version level : ℕ) (name : Word) (at : Place) (trees : Trees Label) (done : Unit {0}) → standing version level name at trees ≡ Ok done → Stands version level name trees
stands version level name at trees done e =
    let named = unless (holds trees name) _ _ done e in
    let deep = unless (nat_le 64 level) _ _ done named.1 in
    let many = unless (not (has_room version level trees)) _ _ done deep.1 in
    let leaf = unless (is_leaf_node (parent_on level trees)) _ _ done many.1 in
    let room = and_parts (nat_lt (size_of trees) (node_limit version)) _ (not_false (has_room version level trees) many.0) in
    record {
      new = named.0;
      deep = leb-false 64 level deep.0;
      room = ltb-true (size_of trees) (node_limit version) room.0;
      few = few_of (version == 2) (child_count (parent_on level trees)) room.1;
      free = leaf.0;
    }

-- ---- the tree so far
record IsGrown (version : ℕ) (trees : Trees Label) : Type 0 where
  pub shaped : IsShaped version trees
  pub labels : EachLabel (IsToldLabel version) trees

grown : (version level : ℕ) (label : Label) (trees : Trees Label) → IsGrown version trees → Stands version level label.name trees → IsToldLabel version label → IsGrown version (put_last level label trees)
grown version level label trees g s told =
    let shaped = g.shaped in
    record {
      shaped = record {
        distinct = distinct_put label level trees shaped.distinct s.new;
        containers = containers_put label level trees shaped.containers s.free;
        levels = omega (arith, height_put label level trees, shaped.levels, s.deep);
        nodes = omega (arith, size_put label level trees, s.room);
        children = few_put version label level trees shaped.children s.few;
      };
      labels = each_put (IsToldLabel version) label told level trees g.labels;
    }

pub name_told : (text : Text) (name : Word × Text) → name_first text ≡ Ok name → is_name name.0 ≡ true
name_told text name e = by_word (is_name (first_word text)) refl e
  where
    by_word : (b : Bool) → is_name (first_word text) ≡ b → due 5 text (if b then Some (first_word text) else None) ≡ Ok name → is_name name.0 ≡ true
    by_word true h e = ap (λ (n : Word × Text). is_name n.0) (sym (same-ok _ _ e)) ∙ h
    by_word false h e = absurd (ok-not-err _ _ e)

grown_on : (version level : ℕ) (text : Text) (trees made : Trees Label) → Fits text → IsGrown version trees → node_on version level text trees ≡ Ok made → IsGrown version made
grown_on version level text trees made h g e =
    let name = both (name_first text) _ made e in
    let may = both (standing version level name.value.0 (word_place text) trees) (λ (done : Unit {0}). node_text version name.value.1 >>= λ node. Ok (put_last level (label_with name.value.0 node) trees)) made name.last in
    let node = both (node_text version name.value.1) _ made may.last in
    let told = node_told version name.value.1 node.value (name_fits text name.value name.first h) node.first in
    subst (IsGrown version) (same-ok _ made node.last)
    (grown version level (label_with name.value.0 node.value) trees g (stands version level name.value.0 (word_place text) trees may.value may.first)
    (record { named = name_told text name.value name.first; kind = told.0; style = told.1 }))

grown_in : (version : ℕ) (text : Text) (trees made : Trees Label) → Fits text → IsGrown version trees → node_in version text trees ≡ Ok made → IsGrown version made
grown_in version text trees made h g e = by_indent (is_indent (open_levels trees) (spaces_of text.bytes)) e
  where
    by_indent : (b : Bool) → (if b then node_on version (spaces_of text.bytes / 2) text trees else Err (fault_at 4 (word_place text))) ≡ Ok made → IsGrown version made
    by_indent true e = grown_on version (spaces_of text.bytes / 2) text trees made h g e
    by_indent false e = absurd (ok-not-err _ _ e)

grown_of : (version : ℕ) (line : Line) (trees made : Trees Label) → IsShort line → IsGrown version trees → node_of version line trees ≡ Ok made → IsGrown version made
grown_of version line trees made h g e = by_fault line.fault e
  where
    by_fault : (f : Option Fault) → ◌≡◌ {A = Result (Trees Label) Fault} (elim f [ Some fault ↦ Err fault | None ↦ node_in version (text_of line) trees ]) (Ok made) → IsGrown version made
    by_fault (Some fault) e = absurd (ok-not-err _ _ e)
    by_fault None e = grown_in version (text_of line) trees made (line_fits line h) g e

grown_all : (version : ℕ) (lines : List Line) (trees made : Trees Label) → AreShort lines → IsGrown version trees → nodes_of version lines trees ≡ Ok made → IsGrown version made
grown_all version [] trees made h g e = subst (IsGrown version) (same-ok trees made e) g
grown_all version (line ∷ lines) trees made h g e = by_skip (is_skipped line) e (λ (t : Trees Label). grown_all version lines t made h.1)
  where
    by_skip : (b : Bool) → (if b then nodes_of version lines trees else node_of version line trees >>= nodes_of version lines) ≡ Ok made
        → ((t : Trees Label) → IsGrown version t → nodes_of version lines t ≡ Ok made → IsGrown version made) → IsGrown version made
    by_skip true e rest = rest trees g e
    by_skip false e rest =
        let one = both (node_of version line trees) (nodes_of version lines) made e in
        rest one.value (grown_of version line trees one.value h.0 g one.first) one.last

nothing_grown : (version : ℕ) → IsGrown version leafless
nothing_grown version = record {
  shaped = record { distinct = tt; containers = tt; levels = omega arith; nodes = omega arith; children = tt };
  labels = tt;
}

-- the first of the trees alone
first_grown : (version : ℕ) (x : Label) (below after : Trees Label) → IsGrown version (tree x below after) → IsGrown version (tree x below leafless)
first_grown version x below after g =
    let s = g.shaped in
    record {
      shaped = record {
        distinct = (s.distinct.0, (refl, ((λ _ _. refl), (s.distinct.1.1.1.0, tt))));
        containers = (s.containers.0, (s.containers.1.0, tt));
        levels = omega (arith, s.levels);
        nodes = omega (arith, s.nodes);
        children = (s.children.0, (s.children.1.0, tt));
      };
      labels = (g.labels.0, (g.labels.1.0, tt));
    }

-- ---- the headers
header_read : {A : Type 0} (form : Text → Option A) (line : Line) (a : A) → header form line ≡ Ok a → form (text_of line) ≡ Some a
header_read {A} form line a e = by_fault line.fault e
  where
    by_form : (o : Option A) → ◌≡◌ {A = Result A Fault} (elim o [ Some read ↦ Ok read | None ↦ Err (fault_at 3 (word_place (text_of line))) ]) (Ok a) → o ≡ Some a
    by_form None e = absurd (ok-not-err _ _ e)
    by_form (Some b) e = ap Some (same-ok b a e)

    by_fault : (f : Option Fault) → ◌≡◌ {A = Result A Fault} (elim f [ Some fault ↦ Err fault | None ↦ elim (form (text_of line)) [ Some read ↦ Ok read | None ↦ Err (fault_at 3 (word_place (text_of line))) ] ]) (Ok a)
        → form (text_of line) ≡ Some a
    by_fault (Some fault) e = absurd (ok-not-err _ _ e)
    by_fault None e = by_form (form (text_of line)) e

where_some : {A : Type 0} (b : Bool) (o : Option A) (a : A) → (if b then o else None) ≡ Some a → o ≡ Some a
where_some true o a e = e
where_some false o a e = absurd (none-some a e)

version_is : (word : Word) (version : ℕ) → version_word word ≡ Some version → IsVersion version
version_is word version e = by_word (bytes_eq word (codes "1")) (bytes_eq word (codes "2")) e
  where
    by_word : (one two : Bool) → (if one then Some 1 else if two then Some 2 else None) ≡ Some version → IsVersion version
    by_word true two e = inl (sym (same_Some 1 version e))
    by_word false true e = inr (sym (same_Some 2 version e))
    by_word false false e = absurd (none-some version e)

version_read : (text : Text) (version : ℕ) → version_in text ≡ Some version → IsVersion version
version_read text version e =
    version_is (first_word (after_word text)) version
    (where_some (is_word (codes "gridlay") text && is_ended (after_word (after_word text))) (version_word (first_word (after_word text))) version e)

AreTwoTold : ℤ × ℤ → Type 0
AreTwoTold size = IsTold size.0 × IsTold size.1

one_told : (word : Word) (next : ℤ → Option (ℤ × ℤ)) (size : ℤ × ℤ) (found : Option ℤ) → size_of_word word ≡ found → bind found next ≡ Some size
    → ((z : ℤ) → IsTold z → next z ≡ Some size → AreTwoTold size) → AreTwoTold size
one_told word next size None f e told = absurd (none-some size e)
one_told word next size (Some z) f e told = told z (record { word = word; told = f }) e

two_told : (width height : ℤ) (size : ℤ × ℤ) (b : Bool) → IsTold width → IsTold height → (if b then Some (width, height) else None) ≡ Some size → AreTwoTold size
unfolding AreTwoTold
two_told width height size true w h e =
    let same : (width, height) ≡ size = same_Some (width, height) size e in
    (subst IsTold (ap (λ (p : ℤ × ℤ). p.0) same) w, subst IsTold (ap (λ (p : ℤ × ℤ). p.1) same) h)
two_told width height size false w h e = absurd (none-some size e)

abbrev height_next : Text → ℤ → ℤ → Option (ℤ × ℤ)
height_next text width height = if is_ended (after_word (after_word text)) then Some (width, height) else None

abbrev width_next : Text → ℤ → Option (ℤ × ℤ)
width_next text width = bind (size_of_word (first_word (after_word text))) (height_next text width)

sizes_told : (text : Text) (size : ℤ × ℤ) → sizes_in text ≡ Some size → AreTwoTold size
sizes_told text size e =
    one_told (first_word text) (width_next text) size (size_of_word (first_word text)) refl e (λ width w f.
    one_told (first_word (after_word text)) (height_next text width) size (size_of_word (first_word (after_word text))) refl f (λ height h g.
    two_told width height size (is_ended (after_word (after_word text))) w h g))

viewport_told : (text : Text) (size : ℤ × ℤ) → viewport_in text ≡ Some size → AreTwoTold size
viewport_told text size e = sizes_told (after_word text) size (where_some (is_word (codes "viewport") text) (sizes_in (after_word text)) size e)

-- ---- the document
rooted_valid : (version : ℕ) (size : ℤ × ℤ) (end : Place) (trees : Trees Label) (doc : Doc) → IsVersion version → AreTwoTold size → IsGrown version trees → rooted version size end trees ≡ Ok doc → IsValid doc
unfolding AreTwoTold
rooted_valid version size end leafless doc v t g e = absurd (ok-not-err _ _ e)
rooted_valid version size end (tree x below after) doc v t g e =
    let one = first_grown version x below after g in
    subst IsValid (same-ok _ doc e) (record { version = v; width = t.0; height = t.1; shaped = one.shaped; labels = one.labels })

sized_valid : (version : ℕ) (end : Place) (lines : List Line) (doc : Doc) → AreShort lines → IsVersion version → sized version end lines ≡ Ok doc → IsValid doc
sized_valid version end [] doc h v e = absurd (ok-not-err _ _ e)
sized_valid version end (line ∷ lines) doc h v e =
    let size = both (header viewport_in line) (λ (size : ℤ × ℤ). nodes_of version lines leafless >>= rooted version size end) doc e in
    let nodes = both (nodes_of version lines leafless) (rooted version size.value end) doc size.last in
    rooted_valid version size.value end nodes.value doc v (viewport_told (text_of line) size.value (header_read viewport_in line size.value size.first))
    (grown_all version lines leafless nodes.value h.1 (nothing_grown version) nodes.first) nodes.last

headed_valid : (end : Place) (lines : List Line) (doc : Doc) → AreShort lines → headed end lines ≡ Ok doc → IsValid doc
headed_valid end [] doc h e = absurd (ok-not-err _ _ e)
headed_valid end (line ∷ lines) doc h e =
    let version = both (header version_in line) (λ (version : ℕ). sized version end (from_counted lines)) doc e in
    sized_valid version.value end (from_counted lines) doc (counted_short lines h.1) (version_read (text_of line) version.value (header_read version_in line version.value version.first)) version.last

pub reads_valid : (lines : List Line) (end : Place) (result : Result Doc ReadError) → Reads result (document_of lines end) → AreShort lines → IfOk result (λ doc. IsValid doc)
reads_valid lines end (Ok doc) h short = headed_valid end (from_counted lines) doc (counted_short lines short) h
reads_valid lines end (Err e) h short = tt
