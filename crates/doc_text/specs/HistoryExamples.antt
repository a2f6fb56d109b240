-- Histories, worked by hand. They hold by computation.
use Rattle.std.specs.Prelude.{◌≡◌, refl, ℕ, pos, [], ◌∷◌, Ok, Err, codes}
use Rattle.std.specs.FinMap as map
use Rattle.text_scan.specs.declared.line.Place.{Place}
use Rattle.plain_tree.specs.Trees.{leafless}
use Rattle.track_text.specs.Gives.{fault_at}
use Rattle.doc_text.specs.declared.document.Doc.{Doc}
use Rattle.doc_text.specs.declared.edit.Edit.TheVariants as edit
use Rattle.doc_text.specs.declared.kind.Kind.TheVariants as kind
use Rattle.doc_text.specs.Histories.{History, begins, edited_history}

abbrev place : Place
place = record { line = 9; column = 6 }

-- the document in a viewport of this width
abbrev wide : ℕ → Doc
wide width = record {
  version = 1;
  width = pos width;
  height = pos 64;
  root = record
      { name = codes "main"; kind = kind.Flex; style = map.empty; children = leafless };
}

-- three viewports one after another, the last two of them taken back
abbrev two_back : History
two_back = record { past = wide 1 ∷ []; doc = wide 2; future = wide 3 ∷ wide 4 ∷ [] }

edits_once : edited_history (edit.Viewport (pos 2) (pos 64)) (begins (wide 1)) ≡ Ok (record { past = wide 1 ∷ []; doc = wide 2; future = [] })
edits_once = refl

takes_back : edited_history (edit.Undo 2 place) (record { past = wide 3 ∷ wide 2 ∷ wide 1 ∷ []; doc = wide 4; future = [] }) ≡ Ok two_back
takes_back = refl

makes_again : edited_history (edit.Redo 2 place) two_back ≡ Ok (record { past = wide 3 ∷ wide 2 ∷ wide 1 ∷ []; doc = wide 4; future = [] })
makes_again = refl

-- an edit after it empties the future
forgets : edited_history (edit.Viewport (pos 5) (pos 64)) two_back ≡ Ok (record { past = wide 2 ∷ wide 1 ∷ []; doc = wide 5; future = [] })
forgets = refl

none_to_undo : edited_history (edit.Undo 2 place) two_back ≡ Err (fault_at 25 place)
none_to_undo = refl

none_to_redo : edited_history (edit.Redo 3 place) two_back ≡ Err (fault_at 26 place)
none_to_redo = refl

asks : edited_history (edit.Hit (pos 0) (pos 0)) two_back ≡ Ok two_back
asks = refl
