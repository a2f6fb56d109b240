-- The frame of the root of a document that was laid out, and its boxes, as the engine holds them.
use Rattle.std.proofs.Common.{◌≡◌, ap, sym, subst, ◌∙◌, ℕ, ◌^◌, ◌<◌, ℤ, List, [], ◌∷◌, ◌++◌, length, Option, Result, Ok, Err, IfSome}
use Rattle.std.specs.Prelude.{IfOk, OnOk}
use Rattle.std.specs.List.{All}
use Rattle.text_scan.specs.declared.line.Fault.{Fault}
use Rattle.outside.specs.declared.event.Event.{Event}
use Rattle.outside.specs.declared.tally.Tally.{Tally}
use Rattle.doc_text.specs.declared.document.Doc.{Doc}
use Rattle.doc_text.specs.Valid.{IsValid}
use Rattle.placing.specs.Nodes.{BareTrees, bare}
use Rattle.placing.specs.Walks.{state}
use Rattle.box_layout.specs.BoxesSeen.{AreNear}
use Rattle.box_layout.specs.FoundRoots.{IsRootFrame}
use Rattle.box_layout.specs.Paths.{IsPathKept}
use Rattle.box_layout.specs.declared.layout.RootFrame.{RootFrame}
use Rattle.page_tree.specs.Answered.{Applies}
use Rattle.page_tree.specs.Boxes as defined
use Rattle.page_tree.specs.Pages.{Held, document_of}
use Rattle.page_tree.specs.declared.error.EditError.{EditError}
use Rattle.page_tree.specs.declared.error.EditError.TheVariants as error
use Rattle.session.specs.Boxes.{boxes_of}
use Rattle.session.specs.Printing.{Box, IsPrintableBox}
use Rattle.session.specs.Standing.{IsLaidBy}
use Rattle.session.proofs.FewBoxes.{few_boxes}
use Rattle.session.proofs.Lain.{all_printable}

-- ---- a layout

module _ (old new : Held) (tally : Tally) (passes : ℕ) (log : Option (List Event)) (same : bare new.nodes.tree ≡ bare old.nodes.tree) (doc : document_of new ≡ document_of old) where
  across : new.width ≡ old.width
  across = ap (λ (d : Doc). d.width) doc

  down : new.height ≡ old.height
  down = ap (λ (d : Doc). d.height) doc

  -- what holds of the old page and its viewport
  moved : (P : BareTrees → ℤ → ℤ → Type 0) → P (bare old.nodes.tree) old.width old.height → P (bare new.nodes.tree) new.width new.height
  moved P p =
      subst (λ (b : BareTrees). P b new.width new.height) (sym same)
      (subst (λ (w : ℤ). P (bare old.nodes.tree) w new.height) (sym across) (subst (λ (h : ℤ). P (bare old.nodes.tree) old.width h) (sym down) p))

  laid_there : (root : RootFrame) → IsRootFrame (bare old.nodes.tree) old.width old.height root → IsPathKept (bare old.nodes.tree) old.width old.height (state new.nodes tally passes log) → IsLaidBy new root
  laid_there root r p = record { frame = moved (λ b w h. IsRootFrame b w h root) r; path = moved (λ b w h. IsPathKept b w h (state new.nodes tally passes log)) p }

  pub laid_by : {E : Type 0} (r : Result RootFrame E) → IfOk r (IsRootFrame (bare old.nodes.tree) old.width old.height) → OnOk r (IsPathKept (bare old.nodes.tree) old.width old.height (state new.nodes tally passes log)) → IfOk r (IsLaidBy new)
  laid_by (Ok root) r p = laid_there root r p
  laid_by (Err e) r p = tt

-- ---- an edit that is not applied

-- ---- what is held stays so

pub root_stays : (root : Option RootFrame) (old new : Held) → new ≡ old → IfSome root (IsLaidBy old) → IfSome root (IsLaidBy new)
root_stays root old new same h = subst (λ (page : Held). IfSome root (IsLaidBy page)) (sym same) h

pub boxes_stay : (boxes : Option (List Box)) (old new : Held) → document_of new ≡ document_of old → IfSome boxes (λ l. l ≡ boxes_of (document_of old)) → IfSome boxes (λ l. l ≡ boxes_of (document_of new))
boxes_stay boxes old new same h = subst (λ (doc : Doc). IfSome boxes (λ l. l ≡ boxes_of doc)) (sym same) h

pub ruleset staying = (root_stays, boxes_stay)

-- ---- the boxes that are found by what is kept

module _ (list : List Box) (doc : Doc) (is : list ≡ boxes_of doc) where
  pub few_listed : IsValid doc → length list < 2 ^ 32
  few_listed valid = subst (λ (l : List Box). length l < 2 ^ 32) (sym is) (few_boxes doc valid)

  pub small_listed : AreNear (defined.boxes_of doc) → All IsPrintableBox list
  unfolding boxes_of
  small_listed near = all_printable list (subst AreNear (sym is) near)

pub listed : (old new : List Box) (doc : Doc) → old ≡ [] → new ≡ old ++ defined.boxes_of doc → new ≡ boxes_of doc
unfolding boxes_of
listed old new doc none more = more ∙ ap (λ (l : List Box). l ++ defined.boxes_of doc) none

pub made_listed : {E : Type 0} (r : Result (List Box) E) (list : List Box) (doc : Doc) → list ≡ boxes_of doc → IfOk r (λ made. made ≡ list) → IfOk r (λ boxes. boxes ≡ boxes_of doc)
made_listed (Ok made) list doc is p = p ∙ is
made_listed (Err e) list doc is p = tt
