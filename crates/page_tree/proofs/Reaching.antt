-- What an edit leaves in the kept lists of a page: the lists of the nodes of the reached names are empty, and all others are as they were. So is what nodes
-- keep longer than their answers where subgrids feel the edit and areas may change; where areas stay, that of those that may be subgrids. The turns of the reached nodes
-- went.
use Rattle.std.proofs.Common.{◌≡◌, ◌≤◌, ℕ, Bool, true, false, ◌&&◌, List, [], ◌∷◌, Option, Some, None, IsSome, is_some, cond, refl, sym, ap, subst, ◌∙◌, arith, inl, inr}
use Rattle.std.specs.Prelude.{◌||◌, ◌⊎◌, if◌then◌else◌}
use Rattle.std.specs.Str.{bytes_eq}
use Rattle.std.proofs.lemmas.Bool.{or_left, or_right}
use Rattle.plain_tree.specs.Trees.{leafless, tree, height_of}
use Rattle.node_arena.specs.declared.number.NodeId.{NodeId}
use Rattle.node_arena.specs.Numbers.{EachNode, IsDistinct, Part, is_among, part_at, same, times, top_numbers, value_at, value_of}
use Rattle.node_arena.proofs.Changed.{times_mapped}
use Rattle.node_arena.proofs.Parts.{each_weaker, numbered}
use Rattle.node_arena.proofs.Same.{by_place, part_after, part_below, part_here, part_some, part_there, same_is}
use Rattle.layout_cache.specs.Reach.{forgets, forgot, reached_by}
use Rattle.doc_text.specs.Label.{Label}
use Rattle.doc_text.specs.Texts.{Word}
use Rattle.doc_text.proofs.Grown.{own_name}
use Rattle.tree_rules.specs.declared.query.Query.{Query}
use Rattle.placing.specs.declared.node.Answer.{Answer}
use Rattle.placing.specs.declared.node.Node.{Node}
use Rattle.placing.specs.declared.told.Past.{Past}
use Rattle.placing.specs.Keeping.{HasGone, HasTurn, goes_at, goes_from, without_answers, without_past, without_past_of}
use Rattle.placing.specs.Kept.{IsRight, kept_at, kept_of, past_at, past_of, turn_at, turn_of}
use Rattle.placing.specs.Nodes.{BareTrees, IsLive, NodeTrees, bare, bare_of, sight_at}
use Rattle.placing.specs.Told.{no_past}
use Rattle.placing.proofs.Bares.{bare_there, height_bare, live_from, tops_bare}
use Rattle.placing.proofs.KeptTrees.{drops_bare, drops_kept, drops_past, drops_turn, forgets_bare, forgets_kept, forgets_past, forgets_turn, turn_twice}
use Rattle.placing.proofs.Mapped.{value_by, value_mapped}
use Rattle.placing.proofs.Sights.{sight_label}
use Rattle.reach_frame.specs.Local.{IsLocal, PlacesSame, is_sub}
use Rattle.reach_frame.specs.Marks.{has_mark, is_reached}
use Rattle.reach_frame.proofs.Calm.{not_later}
use Rattle.reach_frame.proofs.Frame.{not_both}
use Rattle.reach_frame.proofs.Marked.{all_found}
use Rattle.reach_frame.proofs.Unreached.{node_sub, not_found, right_after, value_sub}
use Rattle.reach_frame.proofs.Values.{label_at}
use Rattle.page_tree.specs.Documents.{label_of, plain_trees}
use Rattle.page_tree.specs.Left.{left_in}
use Rattle.page_tree.specs.Reach.{KeepsOn, is_subgrid_node}
use Rattle.page_tree.specs.Registers.{AreNamed, Tells}
use Rattle.page_tree.proofs.Subgrids.{AreSubgrids}

-- ---- names and numbers
module _ (name : Word) (k : NodeId) (marks : Word → Bool) (touched : NodeId → Bool) (grid : Bool) where
  same_marks : (s : NodeTrees) → EachNode (λ x. touched x.0 ≡ marks x.1.name) s → has_mark (λ (l : Label). marks l.name) (plain_trees s) ≡ has_mark (λ (x : NodeId × Node). touched x.0) s
  same_marks leafless m = refl
  same_marks (tree x below after) m = λ i. sym m.0 i || (same_marks below m.1.0 i || same_marks after m.1.1 i)

  pub plain_reached : (felt : Bool) (s : NodeTrees) → Tells k name s → EachNode (λ x. touched x.0 ≡ marks x.1.name) s → AreSubgrids s →
      is_reached (λ (l : Label). bytes_eq l.name name) (λ (l : Label). marks l.name) is_subgrid_node grid felt (plain_trees s)
      ≡ is_reached (λ (x : NodeId × Node). same x.0 k) (λ (x : NodeId × Node). touched x.0) (λ (x : NodeId × Node). node_sub x.1) grid felt s
  plain_reached felt leafless n m g = refl
  plain_reached felt (tree x below after) n m g =
      (λ i. (sym n.0 i && (sym m.0 i || (same_marks below m.1.0 i || (felt && sym g.0 i))))
      || (is_reached (λ (l : Label). bytes_eq l.name name) (λ (l : Label). marks l.name) is_subgrid_node grid ((grid && sym m.0 i) || (felt && sym g.0 i)) (plain_trees below)
      || plain_reached felt after n.1.1 m.1.1 g.1.1 i))
      ∙ ap (λ b. (same x.0 k && (touched x.0 || (has_mark (λ (y : NodeId × Node). touched y.0) below || (felt && node_sub x.1))))
      || (b || is_reached (λ (y : NodeId × Node). same y.0 k) (λ (y : NodeId × Node). touched y.0) (λ (y : NodeId × Node). node_sub y.1) grid felt after))
      (plain_reached ((grid && touched x.0) || (felt && node_sub x.1)) below n.1.0 m.1.0 g.1.0)

-- a marked node is reached
pub marked_reached : (name : Word) (marks : Word → Bool) (grid felt : Bool) (s : NodeTrees) (k : NodeId) (q : Part Node) → part_at s k ≡ Some q → q.0.name ≡ name → marks name ≡ true →
    is_reached (λ (l : Label). bytes_eq l.name name) (λ (l : Label). marks l.name) is_subgrid_node grid felt (plain_trees s) ≡ true
marked_reached name marks grid felt leafless k q e n m = absurd cc
marked_reached name marks grid felt (tree x below after) k q e n m =
    by_place x below k
    (λ h. let is : x.1.name ≡ name = ap (λ (p : Part Node). p.0.name) (some_part (x.1, below) q (sym (part_here x below after k h) ∙ e)) ∙ n in
    or_left _ _ (both (ap (λ z. bytes_eq z name) is ∙ own_name name) (or_left _ _ (ap marks is ∙ m))))
    (λ h. or_right _ _ (or_left _ _ (marked_reached name marks grid ((grid && marks x.1.name) || (felt && is_subgrid_node (label_of x.1))) below k q (sym (part_below x below after k h) ∙ e) n m)))
    (λ h. or_right _ _ (or_right _ _ (marked_reached name marks grid felt after k q (sym (part_after x below after k h) ∙ e) n m)))
  where
    some_part : (a b : Part Node) → Some a ≡ Some b → a ≡ b
    some_part a b e = cc

    both : {a b : Bool} → a ≡ true → b ≡ true → (a && b) ≡ true
    both e f = λ i. e i && f i

-- ---- facts of each node
pub there_in : (s : NodeTrees) (k : NodeId) (v : Node) → value_at s k ≡ Some v → IsSome (part_at s k)
there_in s k v e = at (part_at s k) refl e
  where
    at : (o : Option (Part Node)) → part_at s k ≡ o → value_of o ≡ Some v → IsSome (part_at s k)
    at None f g = absurd cc
    at (Some q) f g = ap is_some f

pub each_with : (P Q R : NodeId × Node → Type 0) (t : NodeTrees) → ((x : NodeId × Node) → P x → Q x → R x) → EachNode P t → EachNode Q t → EachNode R t
each_with P Q R leafless h p q = tt
each_with P Q R (tree x below after) h p q = (h x p.0 q.0, (each_with P Q R below h p.1.0 q.1.0, each_with P Q R after h p.1.1 q.1.1))

pub each_at : (P : NodeId × Node → Type 0) (t : NodeTrees) (k : NodeId) (v : Node) → EachNode P t → value_at t k ≡ Some v → P (k, v)
each_at P leafless k v p e = absurd cc
each_at P (tree x below after) k v p e =
    by_place x below k
    (λ h. let value : x.1 ≡ v = some_node x.1 v (ap value_of (sym (part_here x below after k h)) ∙ e) in
    subst P (λ i. (same_is x.0 k h.is i, value i)) p.0)
    (λ h. each_at P below k v p.1.0 (ap value_of (sym (part_below x below after k h)) ∙ e))
    (λ h. each_at P after k v p.1.1 (ap value_of (sym (part_after x below after k h)) ∙ e))
  where
    some_node : (a b : Node) → Some a ≡ Some b → a ≡ b
    some_node a b e = cc

-- a fact of a node, whatever it keeps
abbrev Whatever : (NodeId × Node → Type 0) → NodeId × Node → Type 0
Whatever P x = (ks : List (Query × Answer)) (p : Past) (n : ℕ) → P (x.0, record x.1 { kept = ks; past = p; turn = n })

-- a fact that holds whatever is kept holds once some of it is let go
module _ (f : Node → Node) (rest : (v : Node) (ks : List (Query × Answer)) (p : Past) (n : ℕ) → ◌≡◌ {A = Node} (record (f v) { kept = ks; past = p; turn = n }) (record v { kept = ks; past = p; turn = n })) (P : NodeId × Node → Type 0) where
  each_forgot : (n : NodeId) (t : NodeTrees) → EachNode (Whatever P) t → EachNode (Whatever P) (forgot f n t)
  each_forgot n leafless h = tt
  each_forgot n (tree x below after) h = (at (same x.0 n), (each_forgot n below h.1.0, each_forgot n after h.1.1))
    where
      at : (c : Bool) (ks : List (Query × Answer)) (p : Past) (k : ℕ) → P (x.0, record (cond c (f x.1) x.1) { kept = ks; past = p; turn = k })
      at true ks p k = subst (λ (v : Node). P (x.0, v)) (sym (rest x.1 ks p k)) (h.0 ks p k)
      at false ks p k = h.0 ks p k

  each_forgets : (ns : List NodeId) (t : NodeTrees) → EachNode (Whatever P) t → EachNode (Whatever P) (forgets f ns t)
  each_forgets [] t h = h
  each_forgets (n ∷ ns) t h = each_forgets ns (forgot f n t) (each_forgot n t h)

-- letting go what is kept longer changes nothing else
rest_without : (all : Bool) (v : Node) (ks : List (Query × Answer)) (p : Past) (n : ℕ) → ◌≡◌ {A = Node} (record (without_past_of all v) { kept = ks; past = p; turn = n }) (record v { kept = ks; past = p; turn = n })
rest_without all v ks p n = at (all || node_sub v)
  where
    at : (c : Bool) → ◌≡◌ {A = Node} (record (if c then without_past v else v) { kept = ks; past = p; turn = n }) (record v { kept = ks; past = p; turn = n })
    at true = refl
    at false = refl

each_left : (P : NodeId × Node → Type 0) (felt placing : Bool) (ns : List NodeId) (t : NodeTrees) → EachNode (Whatever P) t → EachNode P (left_in felt placing ns t)
each_left P felt placing ns t h = each_weaker (Whatever P) P (left_in felt placing ns t) (λ x f. f x.1.kept x.1.past x.1.turn) (at felt)
  where
    answers : EachNode (Whatever P) (forgets without_answers ns t)
    answers = each_forgets without_answers (λ v ks p n. refl) P ns t h

    at : (c : Bool) → EachNode (Whatever P) (left_in c placing ns t)
    at true = each_forgets (without_past_of placing) (rest_without placing) P ns (forgets without_answers ns t) answers
    at false = answers

-- ---- what is left
pub bare_left : (felt placing : Bool) (ns : List NodeId) (t : NodeTrees) → bare (left_in felt placing ns t) ≡ bare t
bare_left true placing ns t = drops_bare placing ns (forgets without_answers ns t) ∙ forgets_bare ns t
bare_left false placing ns t = forgets_bare ns t

answers_left : (felt placing : Bool) (ns : List NodeId) (t : NodeTrees) (n : NodeId) → kept_at (left_in felt placing ns t) n ≡ (if is_among n ns then [] else kept_at t n)
answers_left true placing ns t n = drops_kept placing ns (forgets without_answers ns t) n ∙ forgets_kept ns t n
answers_left false placing ns t n = forgets_kept ns t n

-- letting answers go leaves what a node is
forgot_goes : (all : Bool) (n m : NodeId) (t : NodeTrees) → goes_at all (forgot without_answers n t) m ≡ goes_at all t m
unfolding goes_at
forgot_goes all n m t = ap (goes_from all) (value_mapped (λ k v. cond (same k n) (without_answers v) v) t m) ∙ at (same m n) (value_at t m)
  where
    at : (c : Bool) (o : Option Node) → goes_from all (value_by (λ k v. cond c (without_answers v) v) m o) ≡ goes_from all o
    at true None = refl
    at true (Some v) = refl
    at false None = refl
    at false (Some v) = refl

forgets_goes : (all : Bool) (ns : List NodeId) (t : NodeTrees) (n : NodeId) → goes_at all (forgets without_answers ns t) n ≡ goes_at all t n
forgets_goes all [] t n = refl
forgets_goes all (m ∷ ns) t n = forgets_goes all ns (forgot without_answers m t) n ∙ forgot_goes all m n t

past_left : (felt placing : Bool) (ns : List NodeId) (t : NodeTrees) (n : NodeId) → past_at (left_in felt placing ns t) n ≡ (if felt && (is_among n ns && goes_at placing t n) then no_past else past_at t n)
past_left true placing ns t n =
    drops_past placing ns (forgets without_answers ns t) n
    ∙ ap (λ g. cond (is_among n ns && g) no_past (past_at (forgets without_answers ns t) n)) (forgets_goes placing ns t n)
    ∙ ap (λ p. cond (is_among n ns && goes_at placing t n) no_past p) (forgets_past ns t n)
past_left false placing ns t n = forgets_past ns t n

turns_left : (felt placing : Bool) (ns : List NodeId) (t : NodeTrees) (n : NodeId) → IsLive (bare t) n → HasTurn (is_among n ns) (turn_at t n) (turn_at (left_in felt placing ns t) n)
turns_left true placing ns t n l = subst (HasTurn (is_among n ns) (turn_at t n)) (sym (drops_turn placing ns (forgets without_answers ns t) n)) (forgets_turn ns t n l)
turns_left false placing ns t n l = forgets_turn ns t n l

times_bare : (t : NodeTrees) (n : NodeId) → times n (bare t) ≡ times n t
unfolding bare
times_bare t n = times_mapped (λ k v. bare_of v) n t

pub times_left : (felt placing : Bool) (ns : List NodeId) (t : NodeTrees) (n : NodeId) → times n (left_in felt placing ns t) ≡ times n t
times_left felt placing ns t n = sym (times_bare (left_in felt placing ns t) n) ∙ ap (times n) (bare_left felt placing ns t) ∙ times_bare t n

pub tops_left : (felt placing : Bool) (ns : List NodeId) (t : NodeTrees) → top_numbers (left_in felt placing ns t) ≡ top_numbers t
tops_left felt placing ns t = sym (tops_bare (left_in felt placing ns t)) ∙ ap top_numbers (bare_left felt placing ns t) ∙ tops_bare t

pub height_left : (felt placing : Bool) (ns : List NodeId) (t : NodeTrees) → height_of (left_in felt placing ns t) ≡ height_of t
height_left felt placing ns t = sym (height_bare (left_in felt placing ns t)) ∙ ap height_of (bare_left felt placing ns t) ∙ height_bare t

own_kept : (t : NodeTrees) → IsDistinct t → EachNode (λ x. x.1.kept ≡ kept_at t x.0) t
unfolding kept_at
own_kept t d = each_weaker (λ x. value_at t x.0 ≡ Some x.1) (λ x. x.1.kept ≡ kept_at t x.0) t (λ x e. sym (ap kept_of e)) (numbered t d).each

-- ---- a changed tree
-- A node of it is touched and keeps nothing, and its turn is later than in the old one or the same as there; or it stood in the old one and has its turn and
-- keeps what it kept there, and its values too where subgrids do not feel the change.
abbrev pub IsFrom : List NodeId → Bool → NodeTrees → NodeId × Node → Type 0
IsFrom ts grid t x =
    ((is_among x.0 ts ≡ true) × ((x.1.kept ≡ []) × ((x.1.past ≡ no_past) × (HasGone (turn_at t x.0) x.1.turn ⊎ (IsSome (part_at t x.0) × (x.1.turn ≡ turn_at t x.0))))))
    ⊎ ((v : Node) × ((value_at t x.0 ≡ Some v) × ((v.name ≡ x.1.name) × ((v.kind ≡ x.1.kind) × ((x.1.kept ≡ v.kept) × ((x.1.past ≡ v.past) × ((x.1.turn ≡ v.turn) × (grid ≡ false → label_at x.1 ≡ label_at v))))))))

pub record IsChange (ts : List NodeId) (grid : Bool) (marks : Word → Bool) (t u : NodeTrees) : Type 0 where
  pub local : IsLocal (λ n. is_among n ts) grid (bare t) (bare u)
  pub before : EachNode (λ x. is_among x.0 ts ≡ marks x.1.name) t
  pub after : EachNode (λ x. is_among x.0 ts ≡ marks x.1.name) u
  pub nodes : EachNode (IsFrom ts grid t) u

-- Where areas stay: each node keeps nothing longer than its answers, or has its values and its children still, and its areas depend on the same of these.
abbrev pub AreSettled : NodeTrees → NodeTrees → Type 0
AreSettled t u = (n : NodeId) → IsSome (part_at u n) → (past_at u n ≡ no_past) ⊎ PlacesSame (bare t) (bare u) n

-- what is needed of both trees
pub record IsWhole (root : NodeId) (t : NodeTrees) : Type 0 where
  pub distinct : IsDistinct t
  pub tops : top_numbers t ≡ root ∷ []
  pub low : height_of t ≤ 64
  pub named : AreNamed t
  pub subgrids : AreSubgrids t

module _ (ts : List NodeId) (grid placing : Bool) (marks : Word → Bool) (root : NodeId) (t u : NodeTrees) (wt : IsWhole root t) (wu : IsWhole root u) (c : IsChange ts grid marks t u) where
  abbrev found : List NodeId
  found = reached_by node_sub t ts grid

  abbrev left : NodeTrees
  left = left_in grid placing found u

  -- the node of a name is reached
  abbrev pub reaches_in : NodeTrees → Word → Bool
  reaches_in s name = is_reached (λ (l : Label). bytes_eq l.name name) (λ (l : Label). marks l.name) is_subgrid_node grid false (plain_trees s)

  abbrev touches : Word → Bool
  touches name = reaches_in t name || reaches_in u name

  -- a touched node that keeps nothing
  new_touched : (x : NodeId × Node) → value_at u x.0 ≡ Some x.1 → is_among x.0 ts ≡ marks x.1.name → is_among x.0 ts ≡ true → touches x.1.name ≡ true
  new_touched x e m h = at (part_at u x.0) refl e
    where
      at : (o : Option (Part Node)) → part_at u x.0 ≡ o → value_of o ≡ Some x.1 → touches x.1.name ≡ true
      at None f g = absurd cc
      at (Some q) f g = or_right _ _ (marked_reached x.1.name marks grid false u x.0 q f (ap (λ (v : Node). v.name) (some_node q.0 x.1 g)) (sym m ∙ h))
        where
          some_node : (a b : Node) → Some a ≡ Some b → a ≡ b
          some_node a b e = cc

  -- a node that stood there
  old_reached : (k : NodeId) (v : Node) → value_at t k ≡ Some v → reaches_in t v.name ≡ is_among k found
  old_reached k v e =
      plain_reached v.name k marks (λ n. is_among n ts) grid false t (each_at (λ x. Tells x.0 x.1.name t) t k v wt.named e) c.before wt.subgrids
      ∙ sym (all_found node_sub t ts grid k wt.distinct)

  calm_touched : (x : NodeId × Node) (v : Node) → value_at u x.0 ≡ Some x.1 → value_at t x.0 ≡ Some v → v.name ≡ x.1.name → is_among x.0 found ≡ false → touches x.1.name ≡ false
  calm_touched x v new old n e =
      λ i. (ap (reaches_in t) (sym n) ∙ old_reached x.0 v old ∙ e) i
      || (plain_reached x.1.name x.0 marks (λ m. is_among m ts) grid false u (each_at (λ y. Tells y.0 y.1.name u) u x.0 x.1 wu.named new) c.after wu.subgrids
      ∙ not_later t u wt.distinct wu.distinct root wt.tops wu.tops wt.low wu.low ts grid c.local x.0 (there_in t x.0 v old) (there_in u x.0 x.1 new) e) i

  kept_left : (k : NodeId) (b : Bool) → is_among k found ≡ b → kept_at left k ≡ (if b then [] else kept_at u k)
  kept_left k b e = answers_left grid placing found u k ∙ ap (λ z. cond z [] (kept_at u k)) e

  own_at : (s : NodeTrees) (k : NodeId) (v : Node) → value_at s k ≡ Some v → kept_at s k ≡ v.kept
  unfolding kept_at
  own_at s k v e = ap kept_of e

  own_past : (s : NodeTrees) (k : NodeId) (v : Node) → value_at s k ≡ Some v → past_at s k ≡ v.past
  unfolding past_at
  own_past s k v e = ap past_of e

  own_turn : (s : NodeTrees) (k : NodeId) (v : Node) → value_at s k ≡ Some v → turn_at s k ≡ v.turn
  unfolding turn_at
  own_turn s k v e = ap turn_of e

  not_both_ways : {P : Type 0} (b : Bool) → b ≡ true → b ≡ false → P
  not_both_ways b e f = absurd (not_both b e f)

  keeps : (x : NodeId × Node) → value_at u x.0 ≡ Some x.1 → is_among x.0 ts ≡ marks x.1.name → IsFrom ts grid t x → (ks : List (Query × Answer)) (p : Past) (n : ℕ) → ks ≡ kept_at left x.0 → KeepsOn (touches x.1.name) t (x.0, record x.1 { kept = ks; past = p; turn = n })
  keeps x e m (inl new) ks p n k =
      let touched = new_touched x e m new.0 in
      record {
        kept = k ∙ at (is_among x.0 found) refl ∙ sym (ap (λ b. cond b [] (kept_at t x.0)) touched);
        stood = λ f. not_both_ways (touches x.1.name) touched f;
      }
    where
      at : (b : Bool) → is_among x.0 found ≡ b → kept_at left x.0 ≡ []
      at true f = kept_left x.0 true f
      at false f = kept_left x.0 false f ∙ own_at u x.0 x.1 e ∙ new.1.0
  keeps x e m (inr old) ks p n k = at (is_among x.0 found) refl
    where
      v : Node
      v = old.0

      at : (b : Bool) → is_among x.0 found ≡ b → KeepsOn (touches x.1.name) t (x.0, record x.1 { kept = ks; past = p; turn = n })
      at true f =
          let touched : touches x.1.name ≡ true = or_left _ _ (ap (reaches_in t) (sym old.1.1.0) ∙ old_reached x.0 v old.1.0 ∙ f) in
          record {
            kept = k ∙ kept_left x.0 true f ∙ sym (ap (λ b. cond b [] (kept_at t x.0)) touched);
            stood = λ g. not_both_ways (touches x.1.name) touched g;
          }
      at false f =
          let calm = calm_touched x v e old.1.0 old.1.1.0 f in
          record {
            kept = k ∙ kept_left x.0 false f ∙ own_at u x.0 x.1 e ∙ old.1.1.1.1.0 ∙ sym (own_at t x.0 v old.1.0) ∙ sym (ap (λ b. cond b [] (kept_at t x.0)) calm);
            stood = λ g. (v, (old.1.0, (old.1.1.0, old.1.1.1.0)));
          }

  pub kept_after : EachNode (λ x. KeepsOn (touches x.1.name) t x) left
  kept_after =
      each_with (λ x. x.1.kept ≡ kept_at left x.0) (λ x. x.1.kept ≡ kept_at left x.0 → KeepsOn (touches x.1.name) t x) (λ x. KeepsOn (touches x.1.name) t x) left (λ x p f. f p)
      (own_kept left (λ n. omega (arith, times_left grid placing found u n, wu.distinct n)))
      (each_left (λ x. x.1.kept ≡ kept_at left x.0 → KeepsOn (touches x.1.name) t x) grid placing found u
      (each_with (λ x. (value_at u x.0 ≡ Some x.1) × (is_among x.0 ts ≡ marks x.1.name)) (IsFrom ts grid t) (Whatever (λ x. x.1.kept ≡ kept_at left x.0 → KeepsOn (touches x.1.name) t x)) u (λ x q f. keeps x q.0 q.1 f)
      (each_with (λ x. value_at u x.0 ≡ Some x.1) (λ x. is_among x.0 ts ≡ marks x.1.name) (λ x. (value_at u x.0 ≡ Some x.1) × (is_among x.0 ts ≡ marks x.1.name)) u (λ x p q. (p, q)) (numbered u wu.distinct).each c.after) c.nodes))

  -- a node that is not reached keeps what it kept
  pub kept_calm : (k : NodeId) → IsSome (part_at t k) → IsSome (value_at u k) → is_among k found ≡ false → kept_at left k ≡ kept_at t k
  kept_calm k old new calm = at (value_at u k) refl new
    where
      by : (x : NodeId × Node) → x.0 ≡ k → value_at u x.0 ≡ Some x.1 → IsFrom ts grid t x → kept_at left k ≡ kept_at t k
      by x is e (inl gone) = not_both_ways (is_among k ts) (ap (λ n. is_among n ts) (sym is) ∙ gone.0) (not_found t wt.distinct ts grid k old calm).own
      by x is e (inr was) =
          kept_left k false calm ∙ ap (kept_at u) (sym is) ∙ own_at u x.0 x.1 e ∙ was.1.1.1.1.0 ∙ sym (own_at t x.0 was.0 was.1.0) ∙ ap (kept_at t) is

      at : (o : Option Node) → value_at u k ≡ o → IsSome o → kept_at left k ≡ kept_at t k
      at None e l = absurd cc
      at (Some v) e l = by (k, v) refl e (each_at (IsFrom ts grid t) u k v c.nodes e)

  -- the turn of a node went, or it is not reached and has its turn still
  abbrev TurnsOn : NodeId → Type 0
  TurnsOn n = HasGone (turn_at t n) (turn_at left n) ⊎ ((IsSome (part_at t n) × (is_among n found ≡ false)) × (turn_at left n ≡ turn_at t n))

  value_label : (s : NodeTrees) (k : NodeId) (v : Node) → value_at s k ≡ Some v → label_at v ≡ (sight_at (bare s) k).label
  value_label s k v e = sight_label (bare s) k (bare_of v) (bare_there s k v (sym e))

  -- the values of a node are the same
  abbrev SameValues : NodeId → Type 0
  SameValues k = (sight_at (bare left) k).label ≡ (sight_at (bare t) k).label

  same_values : (k : NodeId) (v w : Node) → value_at t k ≡ Some v → value_at u k ≡ Some w → label_at w ≡ label_at v → SameValues k
  same_values k v w old new same = ap (λ (b : BareTrees). (sight_at b k).label) (bare_left grid placing found u) ∙ sym (value_label u k w new) ∙ same ∙ value_label t k v old

  -- whether what a node keeps longer than its answers goes
  abbrev goes : NodeId → Bool
  goes k = grid && (is_among k found && goes_at placing u k)

  goes_is : (x : NodeId × Node) → value_at u x.0 ≡ Some x.1 → goes_at placing u x.0 ≡ (placing || node_sub x.1)
  unfolding goes_at
  goes_is x e = ap (goes_from placing) e

  -- what it is of is the same
  abbrev Reads : NodeId → Type 0
  Reads k = ((grid ≡ false) × SameValues k) ⊎ ((PlacesSame (bare t) (bare left) k × (is_sub (sight_at (bare left) k).label ≡ false)) ⊎ (is_among k found ≡ false))

  abbrev Holds : NodeId → Type 0
  Holds k = (past_at left k ≡ no_past) ⊎ ((IsSome (part_at t k) × Reads k) × (past_at left k ≡ past_at t k))

  pub right_left : (placing ≡ false → AreSettled t u) → IsRight t → IsRight left
  right_left settled r =
      right_after t left wt.distinct (λ n. omega (arith, times_left grid placing found u n, wu.distinct n)) root wt.tops (tops_left grid placing found u ∙ wu.tops) wt.low (omega (arith, height_left grid placing found u, wu.low)) ts grid
      (subst (λ b. IsLocal (λ n. is_among n ts) grid (bare t) b) (sym (bare_left grid placing found u)) c.local) r (λ n l. at n (value_at u n) refl (value_there n l)) (λ n l. held n (value_at u n) refl (value_there n l)) (λ n l. turned n (value_at u n) refl (value_there n l))
    where
      value_there : (n : NodeId) → IsSome (part_at left n) → IsSome (value_at u n)
      value_there n l = by (part_at u n) refl
        where
          by : (o : Option (Part Node)) → part_at u n ≡ o → IsSome (value_of (part_at u n))
          by None f = let none : 1 ≤ times n u = omega (arith, part_there left n l, times_left grid placing found u n) in let some = part_some u n none in absurd cc
          by (Some q) f = ap (λ o. is_some (value_of o)) f

      or_not : (x : NodeId × Node) → value_at u x.0 ≡ Some x.1 → IsFrom ts grid t x → (b : Bool) → is_among x.0 found ≡ b →
          (kept_at left x.0 ≡ []) ⊎ ((IsSome (part_at t x.0) × (is_among x.0 found ≡ false)) × (kept_at left x.0 ≡ kept_at t x.0))
      or_not x e f true g = inl (kept_left x.0 true g)
      or_not x e (inl new) false g = inl (kept_left x.0 false g ∙ own_at u x.0 x.1 e ∙ new.1.0)
      or_not x e (inr old) false g = inr ((there_in t x.0 old.0 old.1.0, g), kept_left x.0 false g ∙ own_at u x.0 x.1 e ∙ old.1.1.1.1.0 ∙ sym (own_at t x.0 old.0 old.1.0))

      at : (n : NodeId) (o : Option Node) → value_at u n ≡ o → IsSome o → (kept_at left n ≡ []) ⊎ ((IsSome (part_at t n) × (is_among n found ≡ false)) × (kept_at left n ≡ kept_at t n))
      at n None e l = absurd cc
      at n (Some v) e l = or_not (n, v) e (each_at (IsFrom ts grid t) u n v c.nodes e) (is_among n found) refl

      calm_past : (k : NodeId) (b : Bool) → goes k ≡ b → past_at left k ≡ (if b then no_past else past_at u k)
      calm_past k b e = past_left grid placing found u k ∙ ap (λ z. cond z no_past (past_at u k)) e

      holds_or : (x : NodeId × Node) → value_at u x.0 ≡ Some x.1 → IsFrom ts grid t x → (b : Bool) → goes x.0 ≡ b → Holds x.0
      holds_or x e f true g = inl (calm_past x.0 true g)
      holds_or x e (inl new) false g = inl (calm_past x.0 false g ∙ own_past u x.0 x.1 e ∙ new.1.1.0)
      holds_or x e (inr old) false g = by grid refl (is_among x.0 found) refl placing refl (node_sub x.1) refl
        where
          own : past_at left x.0 ≡ past_at u x.0
          own = calm_past x.0 false g

          before : past_at left x.0 ≡ past_at t x.0
          before = own ∙ own_past u x.0 x.1 e ∙ old.1.1.1.1.1.0 ∙ sym (own_past t x.0 old.0 old.1.0)

          there : IsSome (part_at t x.0)
          there = there_in t x.0 old.0 old.1.0

          -- where areas stay and it is no subgrid
          stands : node_sub x.1 ≡ false → (past_at u x.0 ≡ no_past) ⊎ PlacesSame (bare t) (bare u) x.0 → Holds x.0
          stands none (inl q) = inl (own ∙ q)
          stands none (inr p) =
              inr (
                (
                  there,
                  inr (inl (
                    subst (λ b. PlacesSame (bare t) b x.0) (sym (bare_left grid placing found u)) p,
                    ap (λ (b : BareTrees). is_sub (sight_at b x.0).label) (bare_left grid placing found u) ∙ value_sub u x.0 x.1 (sym e) ∙ none,
                  )),
                ),
                before,
              )

          went : (d : Bool) → grid ≡ true → is_among x.0 found ≡ true → (placing || node_sub x.1) ≡ d → d ≡ true → Holds x.0
          went d f h k m = absurd (not_both (goes x.0) ((λ i. f i && (h i && (goes_is x e ∙ k ∙ m) i))) g)

          by : (a : Bool) → grid ≡ a → (b : Bool) → is_among x.0 found ≡ b → (c : Bool) → placing ≡ c → (d : Bool) → node_sub x.1 ≡ d → Holds x.0
          by false f b h c k d m = inr ((there, inl (f, same_values x.0 old.0 x.1 old.1.0 e (old.1.1.1.1.1.1.1 f))), before)
          by true f false h c k d m = inr ((there, inr (inr h)), before)
          by true f true h true k d m = went true f h (ap (λ z. z || node_sub x.1) k) refl
          by true f true h false k true m = went true f h ((λ i. k i || m i)) refl
          by true f true h false k false m = stands m (settled k x.0 (there_in u x.0 x.1 e))

      held : (n : NodeId) (o : Option Node) → value_at u n ≡ o → IsSome o → Holds n
      held n None e l = absurd cc
      held n (Some v) e l = holds_or (n, v) e (each_at (IsFrom ts grid t) u n v c.nodes e) (goes n) refl

      stayed : (n : NodeId) → IsSome (part_at t n) → turn_at u n ≡ turn_at t n → (b : Bool) → is_among n found ≡ b → HasTurn b (turn_at u n) (turn_at left n) → TurnsOn n
      stayed n old same true e h = inl (subst (λ k. HasGone k (turn_at left n)) same h)
      stayed n old same false e h = inr ((old, e), h ∙ same)

      turns_or : (x : NodeId × Node) → value_at u x.0 ≡ Some x.1 → IsFrom ts grid t x → HasTurn (is_among x.0 found) (turn_at u x.0) (turn_at left x.0) → TurnsOn x.0
      turns_or x e (inl new) h = by new.1.1.1
        where
          by : HasGone (turn_at t x.0) x.1.turn ⊎ (IsSome (part_at t x.0) × (x.1.turn ≡ turn_at t x.0)) → TurnsOn x.0
          by (inl gone) = inl (turn_twice true (is_among x.0 found) (turn_at t x.0) (turn_at u x.0) (turn_at left x.0) (subst (HasGone (turn_at t x.0)) (sym (own_turn u x.0 x.1 e)) gone) h)
          by (inr old) = stayed x.0 old.0 (own_turn u x.0 x.1 e ∙ old.1) (is_among x.0 found) refl h
      turns_or x e (inr old) h = stayed x.0 (there_in t x.0 old.0 old.1.0) (own_turn u x.0 x.1 e ∙ old.1.1.1.1.1.1.0 ∙ sym (own_turn t x.0 old.0 old.1.0)) (is_among x.0 found) refl h

      turned : (n : NodeId) (o : Option Node) → value_at u n ≡ o → IsSome o → TurnsOn n
      turned n None e l = absurd cc
      turned n (Some v) e l = turns_or (n, v) e (each_at (IsFrom ts grid t) u n v c.nodes e) (turns_left grid placing found u n (live_from u n (there_in u n v e)))
