-- A page of a valid document: what asked_names' laws want of it.
use Rattle.std.proofs.Common.{◌≡◌, refl, sym, ap, ◌∙◌, subst, arith, ℕ, ◌≤◌, Bool, true, false, List, [], ◌∷◌, length, Some, true≢false}
use Rattle.std.specs.Prelude.{◌&&◌, Contains}
use Rattle.plain_tree.specs.Trees.{count_of, leafless, tree}
use Rattle.node_arena.specs.declared.number.NodeId.{NodeId}
use Rattle.node_arena.specs.Numbers.{IsDistinct, top_numbers, value_at}
use Rattle.node_arena.specs.Plain.{Nodes}
use Rattle.doc_text.specs.Edits.{tree_of}
use Rattle.doc_text.specs.Named.{IsDistinct as NamesDiffer}
use Rattle.doc_text.specs.Valid.{HasContainers, IsValid}
use Rattle.placing.specs.Keeping.{is_leaf}
use Rattle.placing.specs.Kept.{IsRight, kept_at}
use Rattle.placing.specs.Nodes.{Bare, BareTrees, NodeTrees, bare, label_of_bare, sight_at}
use Rattle.placing.specs.Walks.{AreAsked, AreFresh, Entry, State, Walk, bare_in, entries_of, events_of, kept_in, kept_with}
use Rattle.placing.specs.declared.node.Answer.{Answer}
use Rattle.placing.specs.declared.node.Node.{Node}
use Rattle.placing.proofs.Bares.{distinct_bare}
use Rattle.placing.proofs.Sights.{sight_label}
use Rattle.tree_rules.specs.Answers.{Box}
use Rattle.tree_rules.specs.Labels.{Label}
use Rattle.tree_rules.specs.Queries.{is_container}
use Rattle.tree_rules.specs.declared.query.Query.{Query}
use Rattle.box_layout.specs.LeafHeights.{AreMeasured}
use Rattle.box_layout.specs.Paths.{IsAsked, IsOnPath, IsPathKept}
use Rattle.asked_names.specs.Asked.{AreEmpty, AreFew, AreNamed, IsListed, IsNewLeaf, measured_at, name_in}
use Rattle.asked_names.proofs.Containers.{least_answers}
use Rattle.asked_names.proofs.LeafEvents.{leaf_measured}
use Rattle.asked_names.proofs.Once.{few_all}
use Rattle.asked_names.proofs.Spreads.{asked_listed, asked_live, path_listed}
use Rattle.page_tree.specs.Boxes.{boxes_of}
use Rattle.page_tree.specs.Documents.{plain_trees}
use Rattle.page_tree.specs.Pages.{Held, IsPage, Stands, document_of}
use Rattle.page_tree.proofs.Laying.{page_boxes}
use Rattle.asked_pages.specs.AskedOf.{asked_of, containers_by, path_of}
use Rattle.asked_pages.specs.Bounds.{IsBounded}
use Rattle.asked_pages.specs.Leaves.{AreAllMeasured, IsEmptied, PassesUp, leaves_of_grids, measured_in}
use Rattle.asked_pages.proofs.AskedOf.{containers_chosen, leaves_bare, page_asked, page_labels, page_path}
use Rattle.asked_pages.proofs.Distinct.{names_apart}
use Rattle.asked_pages.proofs.GridLeaves.{IsGridLeaf, emptied, grid_leaf, one_parent}

-- the tree of the document
whole_tree : (h : Held) → count_of h.nodes.tree ≡ 1 → plain_trees h.nodes.tree ≡ tree_of (document_of h)
whole_tree h e = at h.nodes.tree refl e
  where
    at : (t : NodeTrees) → h.nodes.tree ≡ t → count_of t ≡ 1 → plain_trees h.nodes.tree ≡ tree_of (document_of h)
    at leafless f e = absurd (omega (arith, e))
    at (tree x below leafless) f e = ap plain_trees f ∙ sym (ap (λ (t : NodeTrees). tree_of (document_of (record h { nodes = record h.nodes { tree = t } }))) f)
    at (tree x below (tree y under after)) f e = absurd (omega (arith, e))

record HasRoot (b : BareTrees) : Type 0 where
  root : NodeId
  top : top_numbers b ≡ root ∷ []

one_root : (t : NodeTrees) → count_of t ≡ 1 → HasRoot (bare t)
unfolding bare
one_root leafless e = absurd (omega (arith, e))
one_root (tree x below leafless) e = record { root = x.0; top = refl }
one_root (tree x below (tree y under after)) e = absurd (omega (arith, e))

module _ (h : Held) (stands : Stands h.nodes.tree) (valid : IsValid (document_of h)) where
  page : IsPage h.nodes.tree
  page = record { rooted = stands.rooted; styled = stands.styled }

  differ : NamesDiffer (plain_trees h.nodes.tree)
  differ = subst NamesDiffer (sym (whole_tree h stands.rooted)) valid.shaped.distinct

  distinct : IsDistinct (bare h.nodes.tree)
  distinct = distinct_bare h.nodes.tree stands.distinct

  named : AreNamed (bare h.nodes.tree)
  named = names_apart h.nodes.tree differ

  root : HasRoot (bare h.nodes.tree)
  root = one_root h.nodes.tree stands.rooted

  pub listed : (m : NodeId) (q : Query) → IsAsked (bare h.nodes.tree) h.width h.height m q → IsListed (bare h.nodes.tree) (asked_of (document_of h)) m q
  listed m q may =
      record {
        live = asked_live (bare h.nodes.tree) distinct h.width h.height m q may;
        listed = subst (λ l. Contains l (name_in (bare h.nodes.tree) m, q)) (page_asked h page) (asked_listed (bare h.nodes.tree) distinct h.width h.height m q may);
      }

  pub on_path : (m : NodeId) (q : Query) → IsOnPath (bare h.nodes.tree) h.width h.height m q → Contains (path_of (document_of h)) (name_in (bare h.nodes.tree) m, q)
  on_path m q p = subst (λ l. Contains l (name_in (bare h.nodes.tree) m, q)) (page_path h page) (path_listed (bare h.nodes.tree) distinct h.width h.height m q p)

  all_listed : (entries : List Entry) → AreAsked (IsAsked (bare h.nodes.tree) h.width h.height) entries → AreAsked (IsListed (bare h.nodes.tree) (asked_of (document_of h))) entries
  all_listed [] k = tt
  all_listed (e ∷ rest) k = (listed e.node e.query k.0, all_listed rest k.1)

  few : (kept : NodeId → List (Query × Answer)) (entries : List Entry) → AreFew (asked_of (document_of h)) → AreAsked (IsAsked (bare h.nodes.tree) h.width h.height) entries → AreFresh kept [] entries → length entries ≤ length (asked_of (document_of h))
  few kept entries are_few asked fresh = few_all (bare h.nodes.tree) (asked_of (document_of h)) named are_few kept entries (all_listed entries asked) fresh

  and_both : (c d : Bool) → (c && d) ≡ true → (c ≡ true) × (d ≡ true)
  and_both true d e = (refl, e)
  and_both false d e = absurd (true≢false (sym e))

  least : (test : List ℕ → Bool) (old new : State) (added : List Entry) → IsRight new.arena.tree → bare_in new ≡ bare h.nodes.tree → IsPathKept (bare h.nodes.tree) h.width h.height new → ((m : NodeId) → kept_in new m ≡ kept_with (kept_in old m) (entries_of m added))
      → ((m : NodeId) (v : Bare) → Some v ≡ value_at (bare h.nodes.tree) m → is_container v.kind ≡ true → test v.name ≡ true → kept_in old m ≡ []) → containers_by test (tree_of (document_of h)) ≤ length added
  unfolding label_of_bare
  least test old new added right here kept grown empty =
      let pass : NodeId × Bare → Bool = λ (x : NodeId × Bare). is_container x.1.kind && test x.1.name in
      let none : AreEmpty pass (bare h.nodes.tree) old = λ m v there passes. let two = and_both (is_container v.kind) (test v.name) passes in (two.0, empty m v there two.0 two.1) in
      omega (
        arith,
        ap (containers_by test) (whole_tree h stands.rooted),
        containers_chosen test h.nodes.tree,
        least_answers pass (bare h.nodes.tree) distinct h.width h.height root.root root.top (leaves_bare h.nodes.tree (subst HasContainers (sym (whole_tree h stands.rooted)) valid.shaped.containers)) old new right here kept added grown none,
      )

  leaves : (old new : State) (added : List Entry) → ((m : NodeId) → kept_in new m ≡ kept_with (kept_in old m) (entries_of m added)) → AreMeasured (bare h.nodes.tree) h.width h.height old new → (c : NodeId) → IsNewLeaf (bare h.nodes.tree) old c
      → (box : Box) → Contains (boxes_of (document_of h)) box → box.0 ≡ name_in (bare h.nodes.tree) c → Contains (events_of (bare h.nodes.tree) added) (measured_at (bare h.nodes.tree) c box.1.width)
  leaves old new added grown measured c fresh box there its =
      leaf_measured (bare h.nodes.tree) distinct named h.width h.height root.root root.top old new added grown measured c fresh box (subst (λ l. Contains l box) (sym (page_boxes h page)) there) its

  -- ---- what a layout keeps

  module _ (old new : State) (same : old.arena ≡ h.nodes) (w : Walk (IsAsked (bare h.nodes.tree) h.width h.height) 0 [] old new) (right : IsRight new.arena.tree)
      (path : IsPathKept (bare h.nodes.tree) h.width h.height new) (measured : AreMeasured (bare h.nodes.tree) h.width h.height old new) where
    bare_is : bare_in old ≡ bare h.nodes.tree
    bare_is = ap (λ (a : Nodes Node). bare a.tree) same

    module _ (test : List ℕ → Bool) (empty : IsEmptied test h) where
      keeps_none : (n : NodeId) → test (name_in (bare h.nodes.tree) n) ≡ true → kept_in old n ≡ []
      keeps_none n passes = ap (λ (a : Nodes Node). kept_at a.tree n) same ∙ emptied test h.nodes.tree empty.each n passes

      new_leaf : (x : Label) (f : IsGridLeaf test h.nodes.tree x) → test x.name ≡ true → IsNewLeaf (bare h.nodes.tree) old f.child
      new_leaf x f passes =
          record {
            parent = f.parent;
            index = f.index;
            is = f.is;
            leaf = ap (λ (l : Label). is_leaf l.kind) f.label ∙ f.leaf;
            own = keeps_none f.child (ap (λ (l : Label). test l.name) f.label ∙ passes);
            under = λ n i e. let one = one_parent (bare h.nodes.tree) f.parent n f.child f.index i distinct f.is e in (
              ap (λ m. (sight_at (bare h.nodes.tree) m).label.kind) one ∙ f.grid,
              keeps_none n (ap (λ m. test (name_in (bare h.nodes.tree) m)) one ∙ f.up passes),
            );
          }

      all_measured : AreAllMeasured test (document_of h) (events_of (bare h.nodes.tree) w.added)
      all_measured x there passes box in_boxes its =
          let f = grid_leaf test h.nodes.tree x stands.distinct (subst (PassesUp test) (sym (whole_tree h stands.rooted)) empty.up) (subst (λ t. Contains (leaves_of_grids t) x) (sym (page_labels h page)) there) in
          subst (λ (l : Label). Contains (events_of (bare h.nodes.tree) w.added) (measured_in l box)) f.label
          (leaves old new w.added w.kept measured f.child (new_leaf x f passes) box in_boxes (its ∙ ap (λ (l : Label). l.name) (sym f.label)))

    pub bounded : IsBounded h w.added
    unfolding label_of_bare
    bounded =
        record {
          listed = all_listed w.added w.asked;
          most = λ few_there. few (kept_in old) w.added few_there w.asked w.fresh;
          least = λ test empty. least test old new w.added right (w.bare_same ∙ bare_is) path w.kept (λ m v there container passes. keeps_none test empty m (ap test (sym (ap (λ (l : Label). l.name) (sight_label (bare h.nodes.tree) m v there))) ∙ passes));
          leaves = λ test empty. all_measured test empty;
        }
