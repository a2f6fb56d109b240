-- A node whose values were changed and are changed back, or that stays as it is.
use Rattle.std.proofs.Common.{◌≡◌, Bool, true, false, cond, refl, ap, ◌∙◌}
use Rattle.std.specs.Str.{bytes_eq}
use Rattle.plain_tree.specs.Trees.{Trees, leafless, tree}
use Rattle.doc_text.specs.Label.{Label}
use Rattle.doc_text.specs.Texts.{Word}
use Rattle.doc_text.specs.Named.{relabelled}
use Rattle.doc_text.proofs.Shapes.{Fact, EachNamed}

-- a change that leaves each label leaves the trees
pub relabel_none : (name : Word) (t : Trees Label) → relabelled name (λ x. x) t ≡ t
relabel_none name leafless = refl
relabel_none name (tree x below after) = by_name (bytes_eq x.name name) (relabel_none name below) (relabel_none name after)
  where
    by_name : (e : Bool) → relabelled name (λ x. x) below ≡ below → relabelled name (λ x. x) after ≡ after → cond e (tree x below after) (tree x (relabelled name (λ x. x) below) (relabelled name (λ x. x) after)) ≡ tree x below after
    by_name true b a = refl
    by_name false b a = λ i. tree x (b i) (a i)

-- the second change takes the first one back
abbrev pub IsUndone : (Label → Label) → (Label → Label) → Fact
IsUndone first second x below = second (first x) ≡ x

pub relabel_back : (name : Word) (first second : Label → Label) → ((x : Label) → (first x).name ≡ x.name) → (t : Trees Label) → EachNamed name (IsUndone first second) t
    → relabelled name second (relabelled name first t) ≡ t
relabel_back name first second same leafless h = refl
relabel_back name first second same (tree x below after) h =
    by_name (bytes_eq x.name name) refl (relabel_back name first second same below h.1.0) (relabel_back name first second same after h.1.1)
  where
    by_name : (e : Bool) → bytes_eq x.name name ≡ e → relabelled name second (relabelled name first below) ≡ below → relabelled name second (relabelled name first after) ≡ after
        → relabelled name second (cond e (tree (first x) below after) (tree x (relabelled name first below) (relabelled name first after))) ≡ tree x below after
    by_name true e b a = rw (ap (λ (n : Word). bytes_eq n name) (same x) ∙ e) (ap (λ (y : Label). tree y below after) (h.0 e))
    by_name false e b a = rw e (λ i. tree x (b i) (a i))
