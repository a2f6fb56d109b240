-- The edits of a generated document (own rule).
use Rattle.std.specs.Prelude.{ℕ, zero, suc, pos, ◌+◌, List, [], ◌∷◌, if◌then◌else◌}
use Rattle.part_rules.specs.declared.content.Content.TheVariants as content
use Rattle.style_types.specs.declared.prop.Prop.TheVariants as prop
use Rattle.style_types.specs.declared.value.Value.TheVariants as value
use Rattle.doc_text.specs.declared.document.Doc.{Doc}
use Rattle.doc_text.specs.declared.edit.Edit.{Edit}
use Rattle.doc_text.specs.declared.edit.Edit.TheVariants as edit
use Rattle.doc_text.specs.declared.edit.Named.{Named}
use Rattle.doc_text.specs.declared.kind.Kind.TheVariants as kind
use Rattle.doc_text.specs.Edits.{applied}
use Rattle.page_maker.specs.Draws.{stepped, drawn}
use Rattle.page_maker.specs.Choices.{is_container}
use Rattle.page_maker.specs.Nodes.{px, name_of, setting}
use Rattle.page_maker.specs.Making.{made_document, last_state}

-- the node j; the edit stands in no text, and its place is 0:0
abbrev pub named : ℕ → Named
named j = record { name = name_of j; at = record { line = 0; column = 0 } }

-- `set nj order: o`
abbrev pub order_edit : ℕ → ℕ → Edit
order_edit j o = edit.Set (named j) (setting prop.Order (value.Order (pos o)) [] ∷ [])

-- `content nj leaf w h`
abbrev pub content_edit : ℕ → ℕ → ℕ → Edit
content_edit j w h = edit.Content (named j) (kind.Leaf (content.Fixed (px w) (px h)))

abbrev pub content_with : ℕ → ℕ → ℕ → Edit × ℕ
content_with j w h = (content_edit j (1 + drawn 50 w) (1 + drawn 30 h), h)

-- the edit of the node j: a container has another order, a leaf another size
unfoldable pub edit_of_node : ℕ → ℕ → ℕ → Edit × ℕ
edit_of_node nodes j x =
    if is_container nodes j then (order_edit j (drawn 5 (stepped x)), stepped x)
    else content_with j (stepped x) (stepped (stepped x))

-- the edit that is drawn from a state on, and the state after it
unfoldable pub edit_from : ℕ → ℕ → Edit × ℕ
edit_from nodes x = edit_of_node nodes (drawn nodes (stepped x)) (stepped x)

-- a document and those that so many edits make of it, each of the one before
abbrev pub edited_from : ℕ → ℕ → Doc → ℕ → List Doc
edited_from zero nodes doc x = doc ∷ []
edited_from (suc count) nodes doc x = doc ∷ edited_from count nodes (applied (edit_from nodes x).0 doc) (edit_from nodes x).1

-- the generated document and the eight after it
unfoldable pub made_documents : ℕ → ℕ → List Doc
made_documents seed nodes = edited_from 8 nodes (made_document seed nodes) (last_state seed nodes)
