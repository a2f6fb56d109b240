-- An edit that a line reads as has values that a text tells, and names its node.
use Rattle.std.proofs.Common.{◌≡◌, refl, ap, sym, subst, ◌∙◌, ℕ, Bool, true, false, inl, inr, [], ◌∷◌, Option, Some, None, Result, Ok, Err, if◌then◌else◌}
use Rattle.std.specs.Prelude.{codes}
use Rattle.std.specs.List.{position_or_len}
use Rattle.lunit.specs.Names.{is_name}
use Rattle.text_scan.specs.declared.line.Fault.{Fault}
use Rattle.text_scan.specs.declared.line.Line.{Line}
use Rattle.text_scan.specs.declared.line.Place.{Place}
use Rattle.track_text.specs.Gives.{fault_at}
use Rattle.value_text.specs.Declarations.{declaration}
use Rattle.value_text.specs.ValueText.{Settings}
use Rattle.doc_text.specs.declared.edit.Edit.{Edit}
use Rattle.doc_text.specs.declared.edit.Edit.TheVariants as edit
use Rattle.doc_text.specs.declared.edit.Named.{Named}
use Rattle.doc_text.specs.Laws.{NamesItsNode}
use Rattle.doc_text.specs.Texts.{Word, Text, first_word, due, is_word, after_word, word_place, ◌>>=◌, end_of, text_of}
use Rattle.doc_text.specs.Tokens.{name_first, size_first, position_first, index_of, index_first, times_first}
use Rattle.doc_text.specs.NodeText.{is_semicolon, content_first, node_text}
use Rattle.doc_text.specs.EditText.{named_first, before_semicolon, after_semicolon, set_edit, props_first, unset_edit, bare_node, insert_edit, remove_edit, move_edit, content_edit, viewport_edit, undo_edit, redo_edit, hit_edit, asked_edit, other_edit, edit_in, edit_of}
use Rattle.doc_text.specs.Valid.{IsShort}
use Rattle.doc_text.proofs.Short.{Fits, after_fits, front_fits, line_fits}
use Rattle.doc_text.proofs.Told.{name_fits, both, ok-not-err, same-ok, AllDeclared, read_declared, size_told, content_told, node_told}
use Rattle.doc_text.proofs.Validity.{name_told}
use Rattle.session.specs.Engine.{AreDeclared, IsToldEdit}

-- an edit as a text of the version tells it
pub record IsReadEdit (version : ℕ) (e : Edit) : Type 0 where
  pub told : IsToldEdit version e
  pub named : NamesItsNode e

each_declared : (version : ℕ) (settings : Settings) → AllDeclared version settings → AreDeclared version settings
each_declared version [] h = tt
each_declared version (setting ∷ settings) h = (h setting (inl refl), each_declared version settings (λ other a. h other (inr a)))

abbrev named_at : Place → Word × Text → Named × Text
named_at at read = (record { name = read.0; at = at }, read.1)

-- what follows a part is no longer than the text
named_fits : (text : Text) (named : Named × Text) → named_first text ≡ Ok named → Fits text → Fits named.1
named_fits text named h f =
    let read = both (name_first text) (λ read. Ok (named_at (word_place text) read)) named h in
    subst (λ (n : Named × Text). Fits n.1) (same-ok (named_at (word_place text) read.value) named read.last) (name_fits text read.value read.first f)

index_fits : (text : Text) (index : ℕ × Text) → index_first text ≡ Ok index → Fits text → Fits index.1
index_fits text index h f = by_index (index_of (first_word text)) h
  where
    by_index : (found : Option ℕ) → due 9 text found ≡ Ok index → Fits index.1
    by_index None h = absurd (ok-not-err index _ h)
    by_index (Some n) h = subst (λ (r : ℕ × Text). Fits r.1) (same-ok (n, after_word text) index h) (after_fits text f)

set_told : (version : ℕ) (text : Text) (e : Edit) → Fits text → set_edit version text ≡ Ok e → IsReadEdit version e
set_told version text e f h =
    let named = both (named_first text) _ e h in
    let rest = named.value.1 in
    let settings = both (declaration version (before_semicolon rest).at (before_semicolon rest).bytes) (λ settings. end_of (after_semicolon rest) >>= λ _. Ok (edit.Set named.value.0 settings)) e named.last in
    let end = both (end_of (after_semicolon rest)) (λ (done : Unit {0}). Ok (edit.Set named.value.0 settings.value)) e settings.last in
    subst (IsReadEdit version) (same-ok (edit.Set named.value.0 settings.value) e end.last)
    (record { told = each_declared version settings.value (read_declared version (before_semicolon rest).at (before_semicolon rest).bytes settings.value (front_fits (position_or_len is_semicolon rest.bytes) rest (named_fits text named.value named.first f)) settings.first); named = tt })

unset_told : (version : ℕ) (text : Text) (e : Edit) → unset_edit version text ≡ Ok e → IsReadEdit version e
unset_told version text e h =
    let named = both (named_first text) _ e h in
    let props = both (props_first version named.value.1) (λ props. end_of props.1 >>= λ _. Ok (edit.Unset named.value.0 props.0)) e named.last in
    let end = both (end_of props.value.1) (λ (done : Unit {0}). Ok (edit.Unset named.value.0 props.value.0)) e props.last in
    subst (IsReadEdit version) (same-ok (edit.Unset named.value.0 props.value.0) e end.last) (record { told = tt; named = tt })

named_told : (text : Text) (named : Named × Text) → named_first text ≡ Ok named → is_name named.0.name ≡ true
named_told text named h =
    let read = both (name_first text) (λ read. Ok (named_at (word_place text) read)) named h in
    ap (λ (n : Named × Text). is_name n.0.name) (sym (same-ok (named_at (word_place text) read.value) named read.last)) ∙ name_told text read.value read.first

insert_told : (version : ℕ) (text : Text) (e : Edit) → Fits text → insert_edit version text ≡ Ok e → IsReadEdit version e
insert_told version text e f h =
    let parent = both (named_first text) _ e h in
    let index = both (index_first parent.value.1) (λ index. named_first index.1 >>= λ named. node_text version named.1 >>= λ node. Ok (edit.Insert parent.value.0 index.0 (word_place parent.value.1) named.0 (bare_node named.0.name node))) e parent.last in
    let named = both (named_first index.value.1) (λ named. node_text version named.1 >>= λ node. Ok (edit.Insert parent.value.0 index.value.0 (word_place parent.value.1) named.0 (bare_node named.0.name node))) e index.last in
    let node = both (node_text version named.value.1) (λ node. Ok (edit.Insert parent.value.0 index.value.0 (word_place parent.value.1) named.value.0 (bare_node named.value.0.name node))) e named.last in
    let fits : Fits named.value.1 = named_fits index.value.1 named.value named.first (index_fits parent.value.1 index.value index.first (named_fits text parent.value parent.first f)) in
    let told = node_told version named.value.1 node.value fits node.first in
    subst (IsReadEdit version) (same-ok (edit.Insert parent.value.0 index.value.0 (word_place parent.value.1) named.value.0 (bare_node named.value.0.name node.value)) e node.last)
    (record { told = record { named = named_told index.value.1 named.value named.first; kind = told.0; style = told.1 }; named = refl })

remove_told : (version : ℕ) (text : Text) (e : Edit) → remove_edit text ≡ Ok e → IsReadEdit version e
remove_told version text e h =
    let named = both (named_first text) _ e h in
    let end = both (end_of named.value.1) (λ (done : Unit {0}). Ok (edit.Remove named.value.0)) e named.last in
    subst (IsReadEdit version) (same-ok (edit.Remove named.value.0) e end.last) (record { told = tt; named = tt })

move_told : (version : ℕ) (text : Text) (e : Edit) → move_edit text ≡ Ok e → IsReadEdit version e
move_told version text e h =
    let named = both (named_first text) _ e h in
    let parent = both (named_first named.value.1) (λ parent. index_first parent.1 >>= λ index. end_of index.1 >>= λ _. Ok (edit.Move named.value.0 parent.0 index.0 (word_place parent.1))) e named.last in
    let index = both (index_first parent.value.1) (λ index. end_of index.1 >>= λ _. Ok (edit.Move named.value.0 parent.value.0 index.0 (word_place parent.value.1))) e parent.last in
    let end = both (end_of index.value.1) (λ (done : Unit {0}). Ok (edit.Move named.value.0 parent.value.0 index.value.0 (word_place parent.value.1))) e index.last in
    subst (IsReadEdit version) (same-ok (edit.Move named.value.0 parent.value.0 index.value.0 (word_place parent.value.1)) e end.last) (record { told = tt; named = tt })

kind_told : (version : ℕ) (text : Text) (e : Edit) → Fits text → content_edit text ≡ Ok e → IsReadEdit version e
kind_told version text e f h =
    let named = both (named_first text) _ e h in
    let kind = both (content_first named.value.1) (λ kind. end_of kind.1 >>= λ _. Ok (edit.Content named.value.0 kind.0)) e named.last in
    let end = both (end_of kind.value.1) (λ (done : Unit {0}). Ok (edit.Content named.value.0 kind.value.0)) e kind.last in
    subst (IsReadEdit version) (same-ok (edit.Content named.value.0 kind.value.0) e end.last) (record { told = (content_told named.value.1 kind.value kind.first (named_fits text named.value named.first f)).0; named = tt })

viewport_told : (version : ℕ) (text : Text) (e : Edit) → viewport_edit text ≡ Ok e → IsReadEdit version e
viewport_told version text e h =
    let width = both (size_first text) _ e h in
    let height = both (size_first width.value.1) (λ height. end_of height.1 >>= λ _. Ok (edit.Viewport width.value.0 height.0)) e width.last in
    let end = both (end_of height.value.1) (λ (done : Unit {0}). Ok (edit.Viewport width.value.0 height.value.0)) e height.last in
    subst (IsReadEdit version) (same-ok (edit.Viewport width.value.0 height.value.0) e end.last)
    (record { told = (size_told text width.value.0 width.value.1 width.first, size_told width.value.1 height.value.0 height.value.1 height.first); named = tt })

hit_told : (version : ℕ) (text : Text) (e : Edit) → hit_edit text ≡ Ok e → IsReadEdit version e
hit_told version text e h =
    let x = both (position_first text) _ e h in
    let y = both (position_first x.value.1) (λ y. end_of y.1 >>= λ _. Ok (edit.Hit x.value.0 y.0)) e x.last in
    let end = both (end_of y.value.1) (λ (done : Unit {0}). Ok (edit.Hit x.value.0 y.value.0)) e y.last in
    subst (IsReadEdit version) (same-ok (edit.Hit x.value.0 y.value.0) e end.last) (record { told = tt; named = tt })

undo_told : (version : ℕ) (text : Text) (e : Edit) → undo_edit text ≡ Ok e → IsReadEdit version e
undo_told version text e h =
    let times = both (times_first text) _ e h in
    let end = both (end_of times.value.1) (λ (done : Unit {0}). Ok (edit.Undo times.value.0 (word_place text))) e times.last in
    subst (IsReadEdit version) (same-ok (edit.Undo times.value.0 (word_place text)) e end.last) (record { told = tt; named = tt })

redo_told : (version : ℕ) (text : Text) (e : Edit) → redo_edit text ≡ Ok e → IsReadEdit version e
redo_told version text e h =
    let times = both (times_first text) _ e h in
    let end = both (end_of times.value.1) (λ (done : Unit {0}). Ok (edit.Redo times.value.0 (word_place text))) e times.last in
    subst (IsReadEdit version) (same-ok (edit.Redo times.value.0 (word_place text)) e end.last) (record { told = tt; named = tt })

asked_told : (version : ℕ) (text : Text) (e : Edit) → asked_edit text ≡ Ok e → IsReadEdit version e
asked_told version text e h = by_word (is_word (codes "undo") text) (is_word (codes "redo") text) (is_word (codes "hit") text) h
  where
    by_word : (undo redo hit : Bool) → (if undo then undo_edit (after_word text) else if redo then redo_edit (after_word text) else if hit then hit_edit (after_word text) else Err (fault_at 20 (word_place text))) ≡ Ok e → IsReadEdit version e
    by_word true redo hit h = undo_told version (after_word text) e h
    by_word false true hit h = redo_told version (after_word text) e h
    by_word false false true h = hit_told version (after_word text) e h
    by_word false false false h = absurd (ok-not-err e _ h)

other_told : (version : ℕ) (text : Text) (e : Edit) → Fits text → other_edit text ≡ Ok e → IsReadEdit version e
other_told version text e f h = by_word (is_word (codes "remove") text) (is_word (codes "move") text) (is_word (codes "content") text) (is_word (codes "viewport") text) h
  where
    by_word : (remove move content viewport : Bool)
        → (if remove then remove_edit (after_word text) else if move then move_edit (after_word text) else if content then content_edit (after_word text) else if viewport then viewport_edit (after_word text) else asked_edit text) ≡ Ok e
        → IsReadEdit version e
    by_word true move content viewport h = remove_told version (after_word text) e h
    by_word false true content viewport h = move_told version (after_word text) e h
    by_word false false true viewport h = kind_told version (after_word text) e (after_fits text f) h
    by_word false false false true h = viewport_told version (after_word text) e h
    by_word false false false false h = asked_told version text e h

edit_told : (version : ℕ) (text : Text) (e : Edit) → Fits text → edit_in version text ≡ Ok e → IsReadEdit version e
edit_told version text e f h = by_word (is_word (codes "set") text) (is_word (codes "unset") text) (is_word (codes "insert") text) h
  where
    by_word : (set unset insert : Bool)
        → (if set then set_edit version (after_word text) else if unset then unset_edit version (after_word text) else if insert then insert_edit version (after_word text) else other_edit text) ≡ Ok e
        → IsReadEdit version e
    by_word true unset insert h = set_told version (after_word text) e (after_fits text f) h
    by_word false true insert h = unset_told version (after_word text) e h
    by_word false false true h = insert_told version (after_word text) e (after_fits text f) h
    by_word false false false h = other_told version text e f h

line_told : (version : ℕ) (line : Line) (e : Edit) → IsShort line → edit_of version line ≡ Ok e → IsReadEdit version e
line_told version line e s h = by_fault line.fault h
  where
    by_fault : (f : Option Fault) → ◌≡◌ {A = Result Edit Fault} (elim f [ Some fault ↦ Err fault | None ↦ edit_in version (text_of line) ]) (Ok e) → IsReadEdit version e
    by_fault (Some fault) h = absurd (ok-not-err e fault h)
    by_fault None h = edit_told version (text_of line) e (line_fits line s) h

pub values_told : (version : ℕ) (line : Line) (e : Edit) → IsShort line → edit_of version line ≡ Ok e → IsToldEdit version e
values_told version line e s h = (line_told version line e s h).told

pub node_named : (version : ℕ) (line : Line) (e : Edit) → IsShort line → edit_of version line ≡ Ok e → NamesItsNode e
node_named version line e s h = (line_told version line e s h).named

pub ruleset reading_edits = (values_told, node_named)
