-- How the boxes of a layout are held as they come, beside those of the layout before.
use Rattle.std.specs.Prelude.{◌≡◌, ℕ, zero, suc, ◌<◌, Bool, true, false, List, [], ◌∷◌, ◌++◌, length, map, take, ⊤}
use Rattle.std.proofs.Common.{sym, subst, append-nil}
use Rattle.std.proofs.lemmas.List.{append_assoc}
use Rattle.lunit.specs.declared.geometry.Rect.{Rect}
use Rattle.session.specs.Printing.{Box}
use Rattle.open_document.specs.Apart.{AreApart}
use Rattle.open_document.specs.Changed.{changed_in}
use Rattle.open_document.specs.Steps.{HasStepped}

-- boxes, one of which has another rectangle
abbrev pub with_rect : List Box → ℕ → Rect → List Box
with_rect [] index rect = []
with_rect (box ∷ boxes) zero rect = (box.0, rect) ∷ boxes
with_rect (box ∷ boxes) (suc index) rect = box ∷ with_rect boxes index rect

-- an index and the rectangle that its box has
abbrev pub Change : Type 0
Change = ℕ × Rect

-- the same for some boxes, one after another
abbrev pub with_rects : List Box → List Change → List Box
with_rects boxes [] = boxes
with_rects boxes (change ∷ changes) = with_rects (with_rect boxes change.0 change.1) changes

abbrev pub indices_of : List Change → List ℕ
indices_of changes = map (λ (change : Change). change.0) changes

-- all of boxes before an index are changed
abbrev pub AreBelow : ℕ → List Change → Type 0
AreBelow count [] = ⊤
AreBelow count (change ∷ changes) = (change.0 < count) × AreBelow count changes

-- the boxes that came, as long as all have the names of those before: these, and what changed of them
pub record IsInStep (before : List Box) (count : ℕ) (changes : List Change) (boxes done : List Box) : Type 0 where
  pub counted : count ≡ length done
  pub below : AreBelow count changes
  pub none : boxes ≡ []
  pub is : done ≡ with_rects (take count before) changes

-- from the first other name on all boxes are held
abbrev pub AreHeld : Bool → List Box → ℕ → List Change → List Box → List Box → Type 0
AreHeld false before count changes boxes done = IsInStep before count changes boxes done
AreHeld true before count changes boxes done = boxes ≡ done

-- these boxes came
pub record HaveCome (before : List Box) (count : ℕ) (changes : List Change) (apart : Bool) (boxes done : List Box) : Type 0 where
  pub names : AreApart before
  pub stepped : HasStepped before done count (indices_of changes)
  pub held : AreHeld apart before count changes boxes done

-- the boxes that take the place of those before: other ones, or the same with other rectangles
abbrev pub next_boxes : Bool → List Box → List Change → List Box → List Box
next_boxes true before changes boxes = boxes
next_boxes false before changes boxes = with_rects before changes

-- they are the boxes that came, and it is told which of them changed
pub record AreNext (before done : List Box) (changes : List Change) (apart : Bool) (boxes : List Box) (changed : List ℕ) : Type 0 where
  pub are : next_boxes apart before changes boxes ≡ done
  pub told : changed ≡ changed_in before done

-- ---- no boxes more, and some and then others

module _ {before : List Box} {count : ℕ} {changes : List Change} {apart : Bool} {boxes : List Box} where
  pub no_more : (done : List Box) → HaveCome before count changes apart boxes done → HaveCome before count changes apart boxes (done ++ [])
  no_more done came = subst (HaveCome before count changes apart boxes) (sym (append-nil done)) came

  pub both_came : (done x y : List Box) → HaveCome before count changes apart boxes ((done ++ x) ++ y) →
      HaveCome before count changes apart boxes (done ++ (x ++ y))
  both_came done x y came = subst (HaveCome before count changes apart boxes) (append_assoc done x y) came
