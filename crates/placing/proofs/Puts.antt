-- What the tree shows after an answer was kept.
use Rattle.std.proofs.Common.{◌≡◌, ℕ, zero, suc, ◌+◌, ◌-◌, ◌≤◌, true, false, List, [], ◌∷◌, ◌++◌, Option, Some, None, cond, length, drop, refl, sym, ap, ◌∙◌, arith, append-nil, subst, inl, inr}
use Rattle.std.specs.Prelude.{Bool, IsSome, ◌||◌, ◌⊎◌, take}
use Rattle.std.proofs.lemmas.Bool.{cases_Bool}
use Rattle.plain_tree.specs.Trees.{leafless, tree}
use Rattle.layout_cache.specs.Kept.{answer_to}
use Rattle.layout_cache.proofs.Sames.{query_is}
use Rattle.node_arena.specs.declared.number.NodeId.{NodeId}
use Rattle.node_arena.specs.Numbers.{EachNode, IsNumbered, replaced, same, value_at}
use Rattle.node_arena.specs.Plain.{Nodes, with_value}
use Rattle.node_arena.proofs.Same.{not_same, same_is, same_not, same_refl}
use Rattle.node_arena.proofs.Standing.{some_is}
use Rattle.outside.specs.Faults.{one_more}
use Rattle.outside.specs.Told.{Adds}
use Rattle.tree_rules.specs.declared.query.Query.{Query}
use Rattle.tree_rules.specs.KeptAnswers.{AreRight, EachPair, IsAbsent, most_kept}
use Rattle.tree_rules.specs.Places.{Seen}
use Rattle.tree_rules.specs.Queries.{Fits, answer_of, same_query}
use Rattle.tree_rules.proofs.KeptLists.{right_put}
use Rattle.placing.specs.declared.node.Answer.{Answer}
use Rattle.placing.specs.declared.node.Node.{Node}
use Rattle.placing.specs.Children.{IsOutside}
use Rattle.placing.specs.Keeping.{ChangesPast, Keeps, with_answer, with_base, with_past}
use Rattle.placing.specs.Bases.{AreOf, HoldsPlaces}
use Rattle.placing.specs.Kept.{IsRight, IsOfNode, kept_at, kept_of, past_at, past_of, plain_answer, turn_at, turn_of}
use Rattle.placing.specs.Told.{HoldsAlong, HoldsColumns, HoldsFrames, HoldsMembers, HoldsPast, HoldsTold}
use Rattle.placing.specs.declared.lined.KeptAlong.{KeptAlong}
use Rattle.placing.specs.declared.lined.ToldMember.{ToldMember}
use Rattle.placing.specs.declared.told.KeptColumns.{KeptColumns}
use Rattle.placing.specs.declared.told.KeptFrames.{KeptFrames}
use Rattle.placing.specs.declared.told.KeptWide.{KeptWide}
use Rattle.placing.specs.declared.told.Past.{Past}
use Rattle.placing.specs.declared.wide.GridBase.{GridBase}
use Rattle.placing.specs.Nodes.{NodeTrees, bare, bare_of, children_at, sight_at}
use Rattle.placing.specs.Walks.{Asks, Entry, IsAlike, State, Walk, Walked, WalkedBelow, bare_in, events_at, events_of, frame_of_arena, itself, kept_in, kept_with, rising}
use Rattle.placing.proofs.Mapped.{value_by, value_mapped}
use Rattle.placing.proofs.Walks.{kept_none, walk_then}

-- ---- lists of pairs
each_put : {A : Type 0} (P : Query → A → Type 0) (xs : List (Query × A)) (q : Query) (a : A) → EachPair P xs → P q a → EachPair P (xs ++ (q, a) ∷ [])
each_put P [] q a h fact = (fact, tt)
each_put P (x ∷ xs) q a h fact = (h.0, each_put P xs q a h.1 fact)

each_drop : {A : Type 0} (P : Query → A → Type 0) (n : ℕ) (xs : List (Query × A)) → EachPair P xs → EachPair P (drop n xs)
each_drop P zero xs h = h
each_drop P (suc n) [] h = h
each_drop P (suc n) (x ∷ xs) h = each_drop P n xs h.1

pub each_found : {A : Type 0} (P : Query → A → Type 0) (q : Query) (a : A) (xs : List (Query × A)) → EachPair P xs → answer_to q xs ≡ Some a → P q a
each_found P q a [] h e = absurd cc
each_found P q a (x ∷ xs) h e = at (cases_Bool (same_query x.0 q)) e (each_found P q a xs h.1)
  where
    at : (same_query x.0 q ≡ true) ⊎ (same_query x.0 q ≡ false) → cond (same_query x.0 q) (Some x.1) (answer_to q xs) ≡ Some a → (answer_to q xs ≡ Some a → P q a) → P q a
    at (inl s) k rest =
        let here : x.1 ≡ a = some_is x.1 a (sym (ap (λ b. cond b (Some x.1) (answer_to q xs)) s) ∙ k) in
        subst (P q) here (subst (λ r. P r x.1) (query_is x.0 q s) h.0)
    at (inr s) k rest = rest (sym (ap (λ b. cond b (Some x.1) (answer_to q xs)) s) ∙ k)

-- an answer that is found is found with others after it
pub found_before : {A : Type 0} (q : Query) (xs ys : List (Query × A)) → IsSome (answer_to q xs) → IsSome (answer_to q (xs ++ ys))
found_before q [] ys some = absurd cc
found_before q (x ∷ xs) ys some = at (cases_Bool (same_query x.0 q)) some (found_before q xs ys)
  where
    at : (same_query x.0 q ≡ true) ⊎ (same_query x.0 q ≡ false) → IsSome (cond (same_query x.0 q) (Some x.1) (answer_to q xs)) →
        (IsSome (answer_to q xs) → IsSome (answer_to q (xs ++ ys))) → IsSome (cond (same_query x.0 q) (Some x.1) (answer_to q (xs ++ ys)))
    at (inl e) _ _ = subst (λ b. IsSome (cond b (Some x.1) (answer_to q (xs ++ ys)))) (sym e) refl
    at (inr e) h later = subst (λ b. IsSome (cond b (Some x.1) (answer_to q (xs ++ ys)))) (sym e) (later (subst (λ b. IsSome (cond b (Some x.1) (answer_to q xs))) e h))

-- neither of two
pub or_false : (a b : Bool) → (a || b) ≡ false → (a ≡ false) × (b ≡ false)
or_false false b e = (refl, e)
or_false true b e = absurd cc

-- ---- one value replaced
abbrev swapped : NodeId → Node → NodeId → Node → Node
swapped n w k v = cond (same k n) w v

kept_swapped : (n m : NodeId) (w : Node) (o : Option Node) → same m n ≡ false → kept_of (value_by (swapped n w) m o) ≡ kept_of o
kept_swapped n m w None e = refl
kept_swapped n m w (Some v) e = ap (λ c. (cond c w v).kept) e

pub kept_other : (t : NodeTrees) (n m : NodeId) (w : Node) → same m n ≡ false → kept_at (replaced n w t) m ≡ kept_at t m
unfolding kept_at
kept_other t n m w e = ap kept_of (value_mapped (swapped n w) t m) ∙ kept_swapped n m w (value_at t m) e

pub kept_same : (t : NodeTrees) (n : NodeId) (v w : Node) → Some v ≡ value_at t n → kept_at (replaced n w t) n ≡ w.kept
unfolding kept_at
kept_same t n v w e = ap kept_of (value_mapped (swapped n w) t n) ∙ ap (λ o. kept_of (value_by (swapped n w) n o)) (sym e) ∙ ap (λ c. (cond c w v).kept) (same_refl n)

pub kept_there : (t : NodeTrees) (n : NodeId) (v : Node) → Some v ≡ value_at t n → v.kept ≡ kept_at t n
unfolding kept_at
kept_there t n v e = ap kept_of e

past_swapped : (n m : NodeId) (w : Node) (o : Option Node) → same m n ≡ false → past_of (value_by (swapped n w) m o) ≡ past_of o
past_swapped n m w None e = refl
past_swapped n m w (Some v) e = ap (λ c. (cond c w v).past) e

past_other : (t : NodeTrees) (n m : NodeId) (w : Node) → same m n ≡ false → past_at (replaced n w t) m ≡ past_at t m
unfolding past_at
past_other t n m w e = ap past_of (value_mapped (swapped n w) t m) ∙ past_swapped n m w (value_at t m) e

past_same : (t : NodeTrees) (n : NodeId) (v w : Node) → Some v ≡ value_at t n → past_at (replaced n w t) n ≡ w.past
unfolding past_at
past_same t n v w e = ap past_of (value_mapped (swapped n w) t n) ∙ ap (λ o. past_of (value_by (swapped n w) n o)) (sym e) ∙ ap (λ c. (cond c w v).past) (same_refl n)

pub past_there : (t : NodeTrees) (n : NodeId) (v : Node) → Some v ≡ value_at t n → v.past ≡ past_at t n
unfolding past_at
past_there t n v e = ap past_of e

turn_swapped : (n m : NodeId) (w : Node) (o : Option Node) → same m n ≡ false → turn_of (value_by (swapped n w) m o) ≡ turn_of o
turn_swapped n m w None e = refl
turn_swapped n m w (Some v) e = ap (λ c. (cond c w v).turn) e

turn_other : (t : NodeTrees) (n m : NodeId) (w : Node) → same m n ≡ false → turn_at (replaced n w t) m ≡ turn_at t m
unfolding turn_at
turn_other t n m w e = ap turn_of (value_mapped (swapped n w) t m) ∙ turn_swapped n m w (value_at t m) e

turn_same : (t : NodeTrees) (n : NodeId) (v w : Node) → Some v ≡ value_at t n → turn_at (replaced n w t) n ≡ w.turn
unfolding turn_at
turn_same t n v w e = ap turn_of (value_mapped (swapped n w) t n) ∙ ap (λ o. turn_of (value_by (swapped n w) n o)) (sym e) ∙ ap (λ c. (cond c w v).turn) (same_refl n)

pub turn_there : (t : NodeTrees) (n : NodeId) (v : Node) → Some v ≡ value_at t n → v.turn ≡ turn_at t n
unfolding turn_at
turn_there t n v e = ap turn_of e

pub turn_none : (t : NodeTrees) (n : NodeId) → None ≡ value_at t n → 0 ≡ turn_at t n
unfolding turn_at
turn_none t n e = ap turn_of e

-- a value with the same turn in the place of one
turn_kept : (t : NodeTrees) (n m : NodeId) (v w : Node) → Some v ≡ value_at t n → w.turn ≡ v.turn → turn_at (replaced n w t) m ≡ turn_at t m
turn_kept t n m v w e l = at (cases_Bool (same m n))
  where
    at : (same m n ≡ true) ⊎ (same m n ≡ false) → turn_at (replaced n w t) m ≡ turn_at t m
    at (inl s) = subst (λ k. turn_at (replaced n w t) k ≡ turn_at t k) (sym (same_is m n s)) (turn_same t n v w e ∙ l ∙ turn_there t n v e)
    at (inr s) = turn_other t n m w s

past_kept : (t : NodeTrees) (n m : NodeId) (v w : Node) → Some v ≡ value_at t n → w.past ≡ v.past → past_at (replaced n w t) m ≡ past_at t m
past_kept t n m v w e l = at (cases_Bool (same m n))
  where
    at : (same m n ≡ true) ⊎ (same m n ≡ false) → past_at (replaced n w t) m ≡ past_at t m
    at (inl s) = subst (λ k. past_at (replaced n w t) k ≡ past_at t k) (sym (same_is m n s)) (past_same t n v w e ∙ l ∙ past_there t n v e)
    at (inr s) = past_other t n m w s

newest_of : (s : Seen) (kids : List NodeId) (xs : List GridBase) → AreOf s kids xs → AreOf s kids (take 1 xs)
newest_of s kids [] h = tt
newest_of s kids (x ∷ xs) h = (h.0, tt)

bare_swapped : (whole : NodeTrees) (n k : NodeId) (v w x : Node) → Some v ≡ value_at whole n → bare_of w ≡ bare_of v → value_at whole k ≡ Some x → bare_of (swapped n w k x) ≡ bare_of x
bare_swapped whole n k v w x e l h = at (cases_Bool (same k n))
  where
    at : (same k n ≡ true) ⊎ (same k n ≡ false) → bare_of (swapped n w k x) ≡ bare_of x
    at (inl s) =
        let is : v ≡ x = some_is v x (e ∙ ap (value_at whole) (sym (same_is k n s)) ∙ h) in
        ap (λ c. bare_of (cond c w x)) s ∙ l ∙ ap bare_of is
    at (inr s) = ap (λ c. bare_of (cond c w x)) s

bare_each : (whole t : NodeTrees) (n : NodeId) (v w : Node) → Some v ≡ value_at whole n → bare_of w ≡ bare_of v → EachNode (λ x. value_at whole x.0 ≡ Some x.1) t → bare (replaced n w t) ≡ bare t
unfolding bare
bare_each whole leafless n v w e l h = refl
bare_each whole (tree x below after) n v w e l h = λ i. tree (x.0, bare_swapped whole n x.0 v w x.1 e l h.0 i) (bare_each whole below n v w e l h.1.0 i) (bare_each whole after n v w e l h.1.1 i)

-- ---- a value that is its own again
same_swapped : (whole : NodeTrees) (n k : NodeId) (v x : Node) → Some v ≡ value_at whole n → value_at whole k ≡ Some x → swapped n v k x ≡ x
same_swapped whole n k v x e h = at (cases_Bool (same k n))
  where
    at : (same k n ≡ true) ⊎ (same k n ≡ false) → swapped n v k x ≡ x
    at (inl s) = ap (λ c. cond c v x) s ∙ some_is v x (e ∙ ap (value_at whole) (sym (same_is k n s)) ∙ h)
    at (inr s) = ap (λ c. cond c v x) s

same_each : (whole t : NodeTrees) (n : NodeId) (v : Node) → Some v ≡ value_at whole n → EachNode (λ x. value_at whole x.0 ≡ Some x.1) t → replaced n v t ≡ t
same_each whole leafless n v e h = refl
same_each whole (tree x below after) n v e h = λ i. tree (x.0, same_swapped whole n x.0 v x.1 e h.0 i) (same_each whole below n v e h.1.0 i) (same_each whole after n v e h.1.1 i)

pub same_again : (arena : Nodes Node) (n : NodeId) (v : Node) → Some v ≡ value_at arena.tree n → IsNumbered arena.tree → with_value n v arena ≡ arena
same_again arena n v e u = ap (λ t. record arena { tree = t }) (same_each arena.tree arena.tree n v e u.each)

-- ---- an answer kept
module _ (t : NodeTrees) (n : NodeId) (v : Node) (q : Query) (a : Answer) (u : IsNumbered t) (e : Some v ≡ value_at t n) where
  abbrev put_tree : NodeTrees
  put_tree = replaced n (with_answer q a v) t

  pub bare_put : bare put_tree ≡ bare t
  bare_put = bare_each t t n v (with_answer q a v) e refl u.each

  pub own_put : kept_at put_tree n ≡ kept_with (kept_at t n) ((q, a) ∷ [])
  own_put = kept_same t n v (with_answer q a v) e ∙ ap (λ k. kept_with k ((q, a) ∷ [])) (kept_there t n v e)

  pub past_put : (m : NodeId) → past_at put_tree m ≡ past_at t m
  past_put m = past_kept t n m v (with_answer q a v) e refl

  pub turn_put : turn_at put_tree ≡ turn_at t
  turn_put = λ i m. turn_kept t n m v (with_answer q a v) e refl i

  abbrev Named : NodeId → Query → Answer → Type 0
  Named m p x = IsOfNode (sight_at (bare t) m) (children_at (bare t) m) p x

  pub all_right : IsRight t → IsAbsent q (kept_at t n) → Fits (sight_at (bare t) n) q → plain_answer a ≡ answer_of (sight_at (bare t) n) q → IsOfNode (sight_at (bare t) n) (children_at (bare t) n) q a → IsRight put_tree
  all_right r absent fits value names =
      record {
        lists = λ m. subst (λ b. AreRight (sight_at b m) plain_answer (kept_at put_tree m)) (sym bare_put) (list m (cases_Bool (same m n)));
        children = λ m. subst (λ b. EachPair (λ (p : Query) (x : Answer). IsOfNode (sight_at b m) (children_at b m) p x) (kept_at put_tree m)) (sym bare_put) (named m (cases_Bool (same m n)));
        past = λ m. subst (λ b. HoldsPast b (turn_at put_tree) m (past_at put_tree m)) (sym bare_put) (subst (λ f. HoldsPast (bare t) f m (past_at put_tree m)) (sym turn_put) (subst (HoldsPast (bare t) (turn_at t) m) (sym (past_put m)) (r.past m)));
      }
    where
      own_list : AreRight (sight_at (bare t) n) plain_answer (kept_at put_tree n)
      own_list = subst (AreRight (sight_at (bare t) n) plain_answer) (sym own_put) (right_put (sight_at (bare t) n) plain_answer (kept_at t n) q a (r.lists n) absent (record { fits = fits; answer = value }))

      list : (m : NodeId) → (same m n ≡ true) ⊎ (same m n ≡ false) → AreRight (sight_at (bare t) m) plain_answer (kept_at put_tree m)
      list m (inl s) = subst (λ k. AreRight (sight_at (bare t) k) plain_answer (kept_at put_tree k)) (sym (same_is m n s)) own_list
      list m (inr s) = subst (AreRight (sight_at (bare t) m) plain_answer) (sym (kept_other t n m (with_answer q a v) s)) (r.lists m)

      own_named : EachPair (Named n) (kept_at put_tree n)
      own_named = subst (EachPair (Named n)) (sym own_put) (each_drop (Named n) (length (kept_at t n ++ (q, a) ∷ []) - most_kept) (kept_at t n ++ (q, a) ∷ []) (each_put (Named n) (kept_at t n) q a (r.children n) names))

      named : (m : NodeId) → (same m n ≡ true) ⊎ (same m n ≡ false) → EachPair (Named m) (kept_at put_tree m)
      named m (inl s) = subst (λ k. EachPair (Named k) (kept_at put_tree k)) (sym (same_is m n s)) own_named
      named m (inr s) = subst (EachPair (Named m)) (sym (kept_other t n m (with_answer q a v) s)) (r.children m)

-- ---- the past changed
module _ (t : NodeTrees) (n : NodeId) (v : Node) (p : Past) (u : IsNumbered t) (e : Some v ≡ value_at t n) where
  abbrev past_tree : NodeTrees
  past_tree = replaced n (with_past p v) t

  bare_past : bare past_tree ≡ bare t
  bare_past = bare_each t t n v (with_past p v) e refl u.each

  kept_past : (m : NodeId) → kept_at past_tree m ≡ kept_at t m
  kept_past m = at (cases_Bool (same m n))
    where
      at : (same m n ≡ true) ⊎ (same m n ≡ false) → kept_at past_tree m ≡ kept_at t m
      at (inl s) = subst (λ k. kept_at past_tree k ≡ kept_at t k) (sym (same_is m n s)) (kept_same t n v (with_past p v) e ∙ kept_there t n v e)
      at (inr s) = kept_other t n m (with_past p v) s

  turn_past : turn_at past_tree ≡ turn_at t
  turn_past = λ i m. turn_kept t n m v (with_past p v) e refl i

  own_past : past_at past_tree n ≡ p
  own_past = past_same t n v (with_past p v) e

  right_past : IsRight t → HoldsPast (bare t) (turn_at t) n p → IsRight past_tree
  right_past r h =
      record {
        lists = λ m. subst (λ b. AreRight (sight_at b m) plain_answer (kept_at past_tree m)) (sym bare_past) (subst (AreRight (sight_at (bare t) m) plain_answer) (sym (kept_past m)) (r.lists m));
        children = λ m. subst (λ b. EachPair (λ (q : Query) (x : Answer). IsOfNode (sight_at b m) (children_at b m) q x) (kept_at past_tree m)) (sym bare_past)
            (subst (EachPair (λ (q : Query) (x : Answer). IsOfNode (sight_at (bare t) m) (children_at (bare t) m) q x)) (sym (kept_past m)) (r.children m));
        past = λ m. subst (λ b. HoldsPast b (turn_at past_tree) m (past_at past_tree m)) (sym bare_past) (subst (λ f. HoldsPast (bare t) f m (past_at past_tree m)) (sym turn_past) (held m (cases_Bool (same m n))));
      }
    where
      held : (m : NodeId) → (same m n ≡ true) ⊎ (same m n ≡ false) → HoldsPast (bare t) (turn_at t) m (past_at past_tree m)
      held m (inl s) = subst (λ k. HoldsPast (bare t) (turn_at t) k (past_at past_tree k)) (sym (same_is m n s)) (subst (HoldsPast (bare t) (turn_at t) n) (sym own_past) h)
      held m (inr s) = subst (HoldsPast (bare t) (turn_at t) m) (sym (past_other t n m (with_past p v) s)) (r.past m)

-- ---- a call that changes the past of a node
module _ (old new : Nodes Node) (n : NodeId) (p : Past) (k : ChangesPast old new n p) where
  new_tree : replaced n (with_past p k.value) old.tree ≡ new.tree
  new_tree = ap (λ (z : Nodes Node). z.tree) (sym k.new_is)

  pub changes_bare : bare new.tree ≡ bare old.tree
  changes_bare = ap bare (sym new_tree) ∙ bare_past old.tree n k.value p k.numbered k.there

  pub changes_turn : turn_at new.tree ≡ turn_at old.tree
  changes_turn = ap turn_at (sym new_tree) ∙ turn_past old.tree n k.value p k.numbered k.there

  pub changes_own : past_at new.tree n ≡ p
  changes_own = ap (λ z. past_at z n) (sym new_tree) ∙ own_past old.tree n k.value p k.numbered k.there

  pub changes_alike : IsAlike old new
  changes_alike = record { bare = changes_bare; frame = ap frame_of_arena k.new_is; kept = λ m. ap (λ z. kept_at z m) (sym new_tree) ∙ kept_past old.tree n k.value p k.numbered k.there m }

  pub changes_right : IsRight old.tree → HoldsPast (bare old.tree) (turn_at old.tree) n p → IsRight new.tree
  changes_right r h = subst IsRight new_tree (right_past old.tree n k.value p k.numbered k.there r h)

-- the node keeps one context with its areas more
pub base_more : (t : NodeTrees) (n : NodeId) (base : GridBase) (p : Past) → IsRight t → HoldsPlaces (sight_at (bare t) n) (children_at (bare t) n) base → p ≡ past_at t n → HoldsPast (bare t) (turn_at t) n (with_base base p)
base_more t n base p r h e =
    let held : HoldsPast (bare t) (turn_at t) n p = subst (HoldsPast (bare t) (turn_at t) n) (sym e) (r.past n) in
    record { bases = (h, newest_of (sight_at (bare t) n) (children_at (bare t) n) p.bases held.bases); columns = held.columns; wide = held.wide; frames = held.frames; members = held.members; along = held.along }

pub base_put : (old : Nodes Node) (n : NodeId) (v : Node) (base : GridBase) (bases : List GridBase) → Some v ≡ value_at old.tree n → IsNumbered old.tree → bases ≡ base ∷ take 1 v.past.bases
    → ChangesPast old (with_value n (record v { past = record v.past { bases = bases } }) old) n (with_base base v.past)
base_put old n v base bases e u h = record { value = v; there = e; numbered = u; new_is = ap (λ bs. with_value n (record v { past = record v.past { bases = bs } }) old) h }

-- it lets go what its children told
pub no_columns : (t : NodeTrees) (n : NodeId) → IsRight t → HoldsPast (bare t) (turn_at t) n (record (past_at t n) { columns = None })
no_columns t n r = let held : HoldsPast (bare t) (turn_at t) n (past_at t n) = r.past n in record { bases = held.bases; columns = tt; wide = held.wide; frames = held.frames; members = held.members; along = held.along }

pub no_wide : (t : NodeTrees) (n : NodeId) → IsRight t → HoldsPast (bare t) (turn_at t) n (record (past_at t n) { wide = None })
no_wide t n r = let held : HoldsPast (bare t) (turn_at t) n (past_at t n) = r.past n in record { bases = held.bases; columns = held.columns; wide = tt; frames = held.frames; members = held.members; along = held.along }

pub no_frames : (t : NodeTrees) (n : NodeId) → IsRight t → HoldsPast (bare t) (turn_at t) n (record (past_at t n) { frames = None })
no_frames t n r = let held : HoldsPast (bare t) (turn_at t) n (past_at t n) = r.past n in record { bases = held.bases; columns = held.columns; wide = held.wide; frames = tt; members = held.members; along = held.along }

-- or keeps it
pub new_columns : (t : NodeTrees) (n : NodeId) (w : KeptColumns) → IsRight t → HoldsColumns (bare t) (turn_at t) n w → HoldsPast (bare t) (turn_at t) n (record (past_at t n) { columns = Some w })
new_columns t n w r h = let held : HoldsPast (bare t) (turn_at t) n (past_at t n) = r.past n in record { bases = held.bases; columns = h; wide = held.wide; frames = held.frames; members = held.members; along = held.along }

pub new_wide : (t : NodeTrees) (n : NodeId) (w : KeptWide) → IsRight t → HoldsTold (bare t) (turn_at t) n w → HoldsPast (bare t) (turn_at t) n (record (past_at t n) { wide = Some w })
new_wide t n w r h = let held : HoldsPast (bare t) (turn_at t) n (past_at t n) = r.past n in record { bases = held.bases; columns = held.columns; wide = h; frames = held.frames; members = held.members; along = held.along }

pub new_frames : (t : NodeTrees) (n : NodeId) (w : KeptFrames) → IsRight t → HoldsFrames (bare t) (turn_at t) n w → HoldsPast (bare t) (turn_at t) n (record (past_at t n) { frames = Some w })
new_frames t n w r h = let held : HoldsPast (bare t) (turn_at t) n (past_at t n) = r.past n in record { bases = held.bases; columns = held.columns; wide = held.wide; frames = h; members = held.members; along = held.along }

pub no_members : (t : NodeTrees) (n : NodeId) → IsRight t → HoldsPast (bare t) (turn_at t) n (record (past_at t n) { members = None })
no_members t n r = let held : HoldsPast (bare t) (turn_at t) n (past_at t n) = r.past n in record { bases = held.bases; columns = held.columns; wide = held.wide; frames = held.frames; members = tt; along = held.along }

pub new_members : (t : NodeTrees) (n : NodeId) (w : List ToldMember) → IsRight t → HoldsMembers (bare t) (turn_at t) n w → HoldsPast (bare t) (turn_at t) n (record (past_at t n) { members = Some w })
new_members t n w r h = let held : HoldsPast (bare t) (turn_at t) n (past_at t n) = r.past n in record { bases = held.bases; columns = held.columns; wide = held.wide; frames = held.frames; members = h; along = held.along }

pub no_along : (t : NodeTrees) (n : NodeId) → IsRight t → HoldsPast (bare t) (turn_at t) n (record (past_at t n) { along = None })
no_along t n r = let held : HoldsPast (bare t) (turn_at t) n (past_at t n) = r.past n in record { bases = held.bases; columns = held.columns; wide = held.wide; frames = held.frames; members = held.members; along = tt }

pub new_along : (t : NodeTrees) (n : NodeId) (w : KeptAlong) → IsRight t → HoldsAlong (bare t) (turn_at t) n w → HoldsPast (bare t) (turn_at t) n (record (past_at t n) { along = Some w })
new_along t n w r h = let held : HoldsPast (bare t) (turn_at t) n (past_at t n) = r.past n in record { bases = held.bases; columns = held.columns; wide = held.wide; frames = held.frames; members = held.members; along = h }

-- ---- a call that keeps an answer
module _ (s w : State) (n : NodeId) (q : Query) (a : Answer) (k : Keeps s.arena w.arena n q a) (r : IsRight s.arena.tree) where
  tree_is : replaced n (with_answer q a k.value) s.arena.tree ≡ w.arena.tree
  tree_is = ap (λ z. z.tree) (sym k.new_is)

  pub keeps_bare : bare_in w ≡ bare_in s
  keeps_bare = ap bare (sym tree_is) ∙ bare_put s.arena.tree n k.value q a k.numbered k.there

  pub keeps_own : kept_in w n ≡ kept_with (kept_in s n) ((q, a) ∷ [])
  keeps_own = ap (λ z. kept_at z n) (sym tree_is) ∙ own_put s.arena.tree n k.value q a k.numbered k.there

  pub keeps_right : IsAbsent q (kept_in s n) → Fits (sight_at (bare_in s) n) q → plain_answer a ≡ answer_of (sight_at (bare_in s) n) q → IsOfNode (sight_at (bare_in s) n) (children_at (bare_in s) n) q a → IsRight w.arena.tree
  keeps_right absent fits value names = subst IsRight tree_is (all_right s.arena.tree n k.value q a k.numbered k.there r absent fits value names)

  keeps_other : (m : NodeId) → same m n ≡ false → kept_in w m ≡ kept_in s m
  keeps_other m e = ap (λ z. kept_at z m) (sym tree_is) ∙ kept_other s.arena.tree n m (with_answer q a k.value) e

  -- an answer is kept, with what was measured for it
  pub keeps_walk : (May : NodeId → Query → Type 0) → May n q → IsAbsent q (kept_in s n) → w.passes ≤ s.passes + 4 → w.tally.added ≡ one_more s.tally.added →
      w.tally.measured ≡ rising s.tally.measured (length (events_at (bare_in s) n q)) → Adds s.log w.log (events_at (bare_in s) n q) →
      (w.tally.lost ≡ false → (s.tally.lost ≡ false) × (kept_in w n ≡ kept_in s n ++ (q, a) ∷ [])) → Walk May 0 [] s w
  keeps_walk May may absent passes added measured log all =
      let entry : Entry = record { node = n; query = q; answer = a } in
      let events : events_of (bare_in s) (entry ∷ []) ++ [] ≡ events_at (bare_in s) n q = append-nil (events_at (bare_in s) n q ++ []) ∙ append-nil (events_at (bare_in s) n q) in
      record {
        added = entry ∷ [];
        bare_same = keeps_bare;
        frame = ap frame_of_arena k.new_is;
        kept = λ m. kept m (cases_Bool (same n m));
        fresh = (subst (IsAbsent q) (sym (kept_none (kept_in s n) (r.lists n).few)) absent, tt);
        asked = (may, tt);
        ticks = omega (arith, passes);
        counted = added;
        measured = measured ∙ ap (λ z. rising s.tally.measured (length z)) (sym events);
        log = subst (Adds s.log w.log) (sym events) log;
        lasting = λ e. ((all e).0, λ m p some. lasts (all e).1 m p some (cases_Bool (same m n)));
      }
    where
      lasts : kept_in w n ≡ kept_in s n ++ (q, a) ∷ [] → (m : NodeId) (p : Query) → IsSome (answer_to p (kept_in s m)) → (same m n ≡ true) ⊎ (same m n ≡ false) → IsSome (answer_to p (kept_in w m))
      lasts whole m p some (inl e) =
          let is = same_is m n e in
          subst (λ k. IsSome (answer_to p (kept_in w k))) (sym is) (subst (λ xs. IsSome (answer_to p xs)) (sym whole) (found_before p (kept_in s n) ((q, a) ∷ []) (subst (λ k. IsSome (answer_to p (kept_in s k))) is some)))
      lasts whole m p some (inr e) = subst (λ xs. IsSome (answer_to p xs)) (sym (keeps_other m e)) some

      kept : (m : NodeId) → (same n m ≡ true) ⊎ (same n m ≡ false) → kept_in w m ≡ kept_with (kept_in s m) (cond (same n m) ((q, a) ∷ []) [] ++ [])
      kept m (inl e) =
          subst (λ z. kept_in w z ≡ kept_with (kept_in s z) ((q, a) ∷ [])) (same_is n m e) keeps_own
          ∙ ap (λ c. kept_with (kept_in s m) (cond c ((q, a) ∷ []) [] ++ [])) (sym e)
      kept m (inr e) =
          keeps_other m (same_not m n (λ z. not_same n m e (sym z))) ∙ sym (kept_none (kept_in s m) (r.lists m).few)
          ∙ ap (λ c. kept_with (kept_in s m) (cond c ((q, a) ∷ []) [] ++ [])) (sym e)

  pub keeps_within : (m : NodeId) → IsOutside (bare_in s) n m → kept_in w m ≡ kept_in s m
  keeps_within m out = keeps_other m (same_not m n out.other)

  -- the question of the answer is answered
  pub keeps_joins : (old : State) (more : ℕ) → more ≤ 4 → WalkedBelow n q more old s → IsAbsent q (kept_in s n) → w.passes ≤ s.passes → w.tally.added ≡ one_more s.tally.added →
      w.tally.measured ≡ rising s.tally.measured (length (events_at (bare_in s) n q)) → Adds s.log w.log (events_at (bare_in s) n q) →
      (w.tally.lost ≡ false → (s.tally.lost ≡ false) × (kept_in w n ≡ kept_in s n ++ (q, a) ∷ [])) → Walked n q old w
  unfolding keeps_walk
  keeps_joins old more few below absent passes added measured log all =
      let one : Walk (Asks (bare_in old) n q) 0 [] s w = keeps_walk (Asks (bare_in old) n q) (itself n q) absent (omega (arith, passes)) added measured log all in
      let count : length one.added ≡ 1 = refl in
      record {
        walk = walk_then (Asks (bare_in old) n q) (Asks (bare_in old) n q) more 0 0 [] old s w below.walk one (λ m p x. x) (omega (arith, passes, few, count, below.walk.ticks));
        within = λ m out. keeps_within m (subst (λ z. IsOutside z n m) (sym below.walk.bare_same) out) ∙ below.within m out;
      }
