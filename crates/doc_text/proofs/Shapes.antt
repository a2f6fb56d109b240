-- What changes by names leave of the shape of a tree.
use Rattle.std.proofs.Common.{◌≡◌, ℕ, ◌+◌, ◌<◌, ◌≤◌, max, Bool, true, false, cond, ◌||◌, ◌&&◌, refl, sym, ap, ◌∙◌, arith, subst}
use Rattle.std.specs.Prelude.{nat_lt, ◌==◌, ⊤}
use Rattle.std.specs.Str.{bytes_eq}
use Rattle.std.proofs.lemmas.Bool.{lt-ltb, ltb-true}
use Rattle.plain_tree.specs.Trees.{Trees, leafless, tree, joined, size_of, height_of, count_of}
use Rattle.plain_tree.proofs.Laws.{joined-leafless}
use Rattle.doc_text.specs.Label.{Label}
use Rattle.doc_text.specs.Texts.{Word}
use Rattle.doc_text.specs.Growth.{holds}
use Rattle.doc_text.specs.Documents.{is_leaf}
use Rattle.doc_text.specs.Named.{IsDistinct, relabelled, tree_at}
use Rattle.doc_text.specs.Edits.{are_too_many}
use Rattle.doc_text.specs.Valid.{HasContainers, HasFewChildren, IsShaped}
use Rattle.doc_text.proofs.Grown.{or_split, same_name, not_true, not_both}
use Rattle.doc_text.proofs.Standing.{no_tree}

-- ---- a fact of the node of a name
abbrev pub Fact : Type 1
Fact = Label → Trees Label → Type 0

abbrev pub EachNamed : Word → Fact → Trees Label → Type 0
EachNamed name Q leafless = ⊤
EachNamed name Q (tree x below after) = (bytes_eq x.name name ≡ true → Q x below) × (EachNamed name Q below × EachNamed name Q after)

abbrev pub OfTop : Fact → Trees Label → Type 0
OfTop Q leafless = ⊤
OfTop Q (tree x below after) = Q x below

each_none : (name : Word) (Q : Fact) (t : Trees Label) → holds t name ≡ false → EachNamed name Q t
each_none name Q leafless h = tt
each_none name Q (tree x below after) h =
    let parts = or_split (bytes_eq x.name name) (holds below name) (holds after name) h in
    ((λ e. absurd (not_both _ e parts.0)), (each_none name Q below parts.1.0, each_none name Q after parts.1.1))

pub each_named : (name : Word) (Q : Fact) (t : Trees Label) → IsDistinct t → OfTop Q (tree_at name t) → EachNamed name Q t
each_named name Q leafless d h = tt
each_named name Q (tree x below after) d h = by_name (bytes_eq x.name name) refl h (each_named name Q below d.1.1.1.0) (each_named name Q after d.1.1.1.1)
  where
    here : bytes_eq x.name name ≡ true → Q x below → EachNamed name Q (tree x below after)
    here e q =
        let same = same_name x.name name e in
        ((λ _. q), (each_none name Q below (ap (holds below) (sym same) ∙ d.0), each_none name Q after (ap (holds after) (sym same) ∙ d.1.0)))

    side : (b : Bool) → holds below name ≡ b → OfTop Q (joined (tree_at name below) (tree_at name after)) → (OfTop Q (tree_at name below) → EachNamed name Q below) → (OfTop Q (tree_at name after) → EachNamed name Q after)
        → EachNamed name Q below × EachNamed name Q after
    side true e k b a =
        let far = d.1.1.0 name e in
        (b (subst (OfTop Q) (ap (joined (tree_at name below)) (no_tree name after far) ∙ joined-leafless (tree_at name below)) k), each_none name Q after far)
    side false e k b a = (each_none name Q below e, a (subst (λ (t : Trees Label). OfTop Q (joined t (tree_at name after))) (no_tree name below e) k))

    by_name : (e : Bool) → bytes_eq x.name name ≡ e → OfTop Q (cond e (tree x below leafless) (joined (tree_at name below) (tree_at name after)))
        → (OfTop Q (tree_at name below) → EachNamed name Q below) → (OfTop Q (tree_at name after) → EachNamed name Q after) → EachNamed name Q (tree x below after)
    by_name true e k b a = here e k
    by_name false e k b a = ((λ f. absurd (not_both _ f e)), side (holds below name) refl k b a)

-- ---- fewer children are not too many
pub fewer : (version m n : ℕ) → m ≤ n → are_too_many version n ≡ false → are_too_many version m ≡ false
fewer version m n h k = by_version (version == 2) k
  where
    by_version : (b : Bool) → (b && nat_lt 65536 n) ≡ false → (b && nat_lt 65536 m) ≡ false
    by_version false e = refl
    by_version true e = not_true _ (λ f. not_both _ (lt-ltb 65536 n (let g : 65536 < m = ltb-true 65536 m f in omega (arith, g, h))) e)

-- ---- other values of a node
module _ (name : Word) (u : Label → Label) (same : (x : Label) → (u x).name ≡ x.name) where
  pub relabel_holds : (t : Trees Label) (m : Word) → holds (relabelled name u t) m ≡ holds t m
  relabel_holds leafless m = refl
  relabel_holds (tree x below after) m = by_name (bytes_eq x.name name) (relabel_holds below m) (relabel_holds after m)
    where
      by_name : (e : Bool) → holds (relabelled name u below) m ≡ holds below m → holds (relabelled name u after) m ≡ holds after m
          → holds (cond e (tree (u x) below after) (tree x (relabelled name u below) (relabelled name u after))) m ≡ holds (tree x below after) m
      by_name true b a = ap (λ (n : Word). bytes_eq n m || (holds below m || holds after m)) (same x)
      by_name false b a = rw (b, a) refl

  pub relabel_distinct : (t : Trees Label) → IsDistinct t → IsDistinct (relabelled name u t)
  relabel_distinct leafless d = tt
  relabel_distinct (tree x below after) d = by_name (bytes_eq x.name name) (relabel_distinct below d.1.1.1.0) (relabel_distinct after d.1.1.1.1)
    where
      by_name : (e : Bool) → IsDistinct (relabelled name u below) → IsDistinct (relabelled name u after) → IsDistinct (cond e (tree (u x) below after) (tree x (relabelled name u below) (relabelled name u after)))
      by_name true b a = (ap (holds below) (same x) ∙ d.0, (ap (holds after) (same x) ∙ d.1.0, d.1.1))
      by_name false b a = (
        relabel_holds below x.name ∙ d.0,
        (
          relabel_holds after x.name ∙ d.1.0,
          ((λ m h. relabel_holds after m ∙ d.1.1.0 m (sym (relabel_holds below m) ∙ h)), (b, a)),
        ),
      )

  pub relabel_size : (t : Trees Label) → size_of (relabelled name u t) ≡ size_of t
  relabel_size leafless = refl
  relabel_size (tree x below after) = by_name (bytes_eq x.name name) (relabel_size below) (relabel_size after)
    where
      by_name : (e : Bool) → size_of (relabelled name u below) ≡ size_of below → size_of (relabelled name u after) ≡ size_of after
          → size_of (cond e (tree (u x) below after) (tree x (relabelled name u below) (relabelled name u after))) ≡ 1 + size_of below + size_of after
      by_name true b a = refl
      by_name false b a = rw (b, a) refl

  pub relabel_height : (t : Trees Label) → height_of (relabelled name u t) ≡ height_of t
  relabel_height leafless = refl
  relabel_height (tree x below after) = by_name (bytes_eq x.name name) (relabel_height below) (relabel_height after)
    where
      by_name : (e : Bool) → height_of (relabelled name u below) ≡ height_of below → height_of (relabelled name u after) ≡ height_of after
          → height_of (cond e (tree (u x) below after) (tree x (relabelled name u below) (relabelled name u after))) ≡ max (1 + height_of below) (height_of after)
      by_name true b a = refl
      by_name false b a = rw (b, a) refl

  pub relabel_count : (t : Trees Label) → count_of (relabelled name u t) ≡ count_of t
  relabel_count leafless = refl
  relabel_count (tree x below after) = by_name (bytes_eq x.name name) (relabel_count after)
    where
      by_name : (e : Bool) → count_of (relabelled name u after) ≡ count_of after → count_of (cond e (tree (u x) below after) (tree x (relabelled name u below) (relabelled name u after))) ≡ 1 + count_of after
      by_name true a = refl
      by_name false a = rw a refl

  pub relabel_few : (version : ℕ) (t : Trees Label) → HasFewChildren version t → HasFewChildren version (relabelled name u t)
  relabel_few version leafless h = tt
  relabel_few version (tree x below after) h = by_name (bytes_eq x.name name) (relabel_few version below h.1.0) (relabel_few version after h.1.1)
    where
      by_name : (e : Bool) → HasFewChildren version (relabelled name u below) → HasFewChildren version (relabelled name u after)
          → HasFewChildren version (cond e (tree (u x) below after) (tree x (relabelled name u below) (relabelled name u after)))
      by_name true b a = h
      by_name false b a = (ap (are_too_many version) (relabel_count below) ∙ h.0, (b, a))

  -- the new kind may be that of a leaf where the node has no children
  abbrev pub MayBe : Fact
  MayBe x below = is_leaf (u x).kind ≡ true → below ≡ leafless

  pub relabel_containers : (t : Trees Label) → HasContainers t → EachNamed name MayBe t → HasContainers (relabelled name u t)
  relabel_containers leafless h k = tt
  relabel_containers (tree x below after) h k = by_name (bytes_eq x.name name) refl (relabel_containers below h.1.0 k.1.0) (relabel_containers after h.1.1 k.1.1)
    where
      by_name : (e : Bool) → bytes_eq x.name name ≡ e → HasContainers (relabelled name u below) → HasContainers (relabelled name u after)
          → HasContainers (cond e (tree (u x) below after) (tree x (relabelled name u below) (relabelled name u after)))
      by_name true e b a = (k.0 e, h.1)
      by_name false e b a = ((λ f. ap (relabelled name u) (h.0 f)), (b, a))

  pub relabel_shaped : (version : ℕ) (t : Trees Label) → IsShaped version t → EachNamed name MayBe t → IsShaped version (relabelled name u t)
  relabel_shaped version t s k = record {
    distinct = relabel_distinct t s.distinct;
    containers = relabel_containers t s.containers k;
    levels = rw (relabel_height t) s.levels;
    nodes = rw (relabel_size t) s.nodes;
    children = relabel_few version t s.children;
  }
