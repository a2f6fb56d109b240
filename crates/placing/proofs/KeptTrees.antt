-- Trees that keep answers.
use Rattle.std.proofs.Common.{◌≡◌, Bool, true, false, List, [], ◌∷◌, Option, Some, None, IsSome, cond, refl, sym, ap, ◌∙◌, subst, arith, inl, inr}
use Rattle.std.specs.Prelude.{◌||◌, ◌&&◌, ◌⊎◌, if◌then◌else◌, ℕ, ◌+◌, map, nat_lt}
use Rattle.std.proofs.lemmas.Bool.{cases_Bool, ltb-false}
use Rattle.plain_tree.specs.Trees.{leafless, tree}
use Rattle.layout_cache.specs.Kept.{answer_to}
use Rattle.layout_cache.specs.Reach.{forgets, forgot}
use Rattle.node_arena.specs.declared.number.NodeId.{NodeId}
use Rattle.node_arena.specs.Numbers.{Part, either, is_among, part_at, same, value_at, value_of}
use Rattle.node_arena.proofs.Same.{same_is, same_not, not_same}
use Rattle.tree_rules.specs.Chains.{siblings_of}
use Rattle.tree_rules.specs.KeptAnswers.{AreRight, EachPair}
use Rattle.tree_rules.specs.Queries.{answer_of}
use Rattle.tree_rules.specs.declared.query.Query.{Query}
use Rattle.tree_rules.proofs.KeptLists.{none_right as empty_right}
use Rattle.placing.specs.declared.node.Answer.{Answer}
use Rattle.placing.specs.declared.node.Node.{Node}
use Rattle.placing.specs.Keeping.{HasGone, HasTurn, HoldsNone, HoldsOn, HoldsSame, IsTurned, KeepsNone, KeepsOn, KeepsSame, goes_at, goes_from, is_subgrid_node, standing_of, without_answers, without_past, without_past_of}
use Rattle.placing.specs.Kept.{IsRight, IsOfNode, kept_at, kept_of, past_at, past_of, plain_answer, turn_at, turn_of}
use Rattle.placing.specs.Told.{HoldsPast, last_turn, next_turn, no_past}
use Rattle.placing.specs.declared.told.Past.{Past}
use Rattle.placing.specs.Nodes.{IsLive, NodeTrees, bare, bare_of, children_at, sight_at}
use Rattle.placing.proofs.Bares.{value_some}
use Rattle.placing.proofs.Mapped.{mapped_same, mapped_twice, value_by, value_mapped}
use Rattle.placing.proofs.Pasts.{past_stays}
use Rattle.placing.proofs.Puts.{each_found}

pub read_value : (t : NodeTrees) (n : NodeId) (q : Query) (a : Answer) → IsRight t → answer_to q (kept_at t n) ≡ Some a → plain_answer a ≡ answer_of (sight_at (bare t) n) q
read_value t n q a r e = (each_found _ q a (kept_at t n) (r.lists n).each e).answer

pub read_children : (t : NodeTrees) (n : NodeId) (q : Query) (a : Answer) → IsRight t → answer_to q (kept_at t n) ≡ Some a → IsOfNode (sight_at (bare t) n) (children_at (bare t) n) q a
read_children t n q a r e = each_found (λ (p : Query) (x : Answer). IsOfNode (sight_at (bare t) n) (children_at (bare t) n) p x) q a (kept_at t n) (r.children n) e

-- ---- nothing kept
part_kept : (c : Bool) (w o p : Option (Part Node)) → kept_of (value_of w) ≡ [] → kept_of (value_of o) ≡ [] → kept_of (value_of p) ≡ [] → kept_of (value_of (cond c w (either o p))) ≡ []
part_kept true w o p e f g = e
part_kept false w None p e f g = g
part_kept false w (Some x) p e f g = f

none_at : (t : NodeTrees) (n : NodeId) → KeepsNone t → kept_at t n ≡ []
unfolding kept_at
none_at leafless n h = refl
none_at (tree x below after) n h = part_kept (same x.0 n) (Some (x.1, below)) (part_at below n) (part_at after n) h.0 (none_at below n h.1.0) (none_at after n h.1.1)

part_held : (c : Bool) (w o p : Option (Part Node)) → past_of (value_of w) ≡ no_past → past_of (value_of o) ≡ no_past → past_of (value_of p) ≡ no_past → past_of (value_of (cond c w (either o p))) ≡ no_past
part_held true w o p e f g = e
part_held false w None p e f g = g
part_held false w (Some x) p e f g = f

held_none : (t : NodeTrees) (n : NodeId) → HoldsNone t → past_at t n ≡ no_past
unfolding past_at
held_none leafless n h = refl
held_none (tree x below after) n h = part_held (same x.0 n) (Some (x.1, below)) (part_at below n) (part_at after n) h.0 (held_none below n h.1.0) (held_none after n h.1.1)

pub still_right : (t u : NodeTrees) → IsRight t → ((n : NodeId) → KeepsOn t u n) → ((n : NodeId) → HoldsOn t u n) → ((n : NodeId) → IsLive (bare u) n → IsTurned t u n) → IsRight u
still_right t u r h g turned = record { lists = λ n. list n (h n); children = λ n. named n (h n); past = λ n. held n (g n) }
  where
    held : (n : NodeId) → HoldsOn t u n → HoldsPast (bare u) (turn_at u) n (past_at u n)
    held n (inl e) = subst (HoldsPast (bare u) (turn_at u) n) (sym e) (record { bases = tt; columns = tt; wide = tt; frames = tt; members = tt; along = tt })
    held n (inr k) =
        subst (HoldsPast (bare u) (turn_at u) n) (sym k.past)
        (past_stays (bare t) (bare u) (turn_at t) (turn_at u) n k.label k.chain k.siblings k.children (λ c l. (turned c l).later) (λ c l. (turned c l).same) (past_at t n) (r.past n))

    list : (n : NodeId) → KeepsOn t u n → AreRight (sight_at (bare u) n) plain_answer (kept_at u n)
    list n (inl e) = subst (AreRight (sight_at (bare u) n) plain_answer) (sym e) (empty_right (sight_at (bare u) n) plain_answer)
    list n (inr k) = subst (λ s. AreRight s plain_answer (kept_at u n)) (sym k.sight) (subst (AreRight (sight_at (bare t) n) plain_answer) (sym k.kept) (r.lists n))

    named : (n : NodeId) → KeepsOn t u n → EachPair (λ (q : Query) (a : Answer). IsOfNode (sight_at (bare u) n) (children_at (bare u) n) q a) (kept_at u n)
    named n (inl e) = subst (EachPair (λ (q : Query) (a : Answer). IsOfNode (sight_at (bare u) n) (children_at (bare u) n) q a)) (sym e) tt
    named n (inr k) =
        subst (λ s. EachPair (λ (q : Query) (a : Answer). IsOfNode s (children_at (bare u) n) q a) (kept_at u n)) (sym k.sight)
        (subst (λ l. EachPair (λ (q : Query) (a : Answer). IsOfNode (sight_at (bare t) n) l q a) (kept_at u n)) (sym k.children)
        (subst (EachPair (λ (q : Query) (a : Answer). IsOfNode (sight_at (bare t) n) (children_at (bare t) n) q a)) (sym k.kept) (r.children n)))

pub none_right : (t : NodeTrees) → KeepsNone t → HoldsNone t → IsRight t
none_right t h g =
    record {
      lists = λ n. subst (AreRight (sight_at (bare t) n) plain_answer) (sym (none_at t n h)) (empty_right (sight_at (bare t) n) plain_answer);
      children = λ n. subst (EachPair (λ (q : Query) (a : Answer). IsOfNode (sight_at (bare t) n) (children_at (bare t) n) q a)) (sym (none_at t n h)) tt;
      past = λ n. subst (HoldsPast (bare t) (turn_at t) n) (sym (held_none t n g)) (record { bases = tt; columns = tt; wide = tt; frames = tt; members = tt; along = tt });
    }

-- ---- answers let go
abbrev letting : NodeId → NodeId → Node → Node
letting n k v = cond (same k n) (without_answers v) v

bare_letting : (n k : NodeId) (v : Node) → bare_of (letting n k v) ≡ bare_of v
bare_letting n k v = at (same k n)
  where
    at : (c : Bool) → bare_of (cond c (without_answers v) v) ≡ bare_of v
    at true = refl
    at false = refl

forgot_bare : (n : NodeId) (t : NodeTrees) → bare (forgot without_answers n t) ≡ bare t
unfolding bare
forgot_bare n t = mapped_twice (letting n) (λ k v. bare_of v) t ∙ mapped_same (λ k v. bare_of (letting n k v)) (λ k v. bare_of v) t (bare_letting n)

pub forgets_bare : (ns : List NodeId) (t : NodeTrees) → bare (forgets without_answers ns t) ≡ bare t
forgets_bare [] t = refl
forgets_bare (n ∷ ns) t = forgets_bare ns (forgot without_answers n t) ∙ forgot_bare n t

forgot_kept : (n m : NodeId) (t : NodeTrees) → kept_at (forgot without_answers n t) m ≡ (if same m n then [] else kept_at t m)
unfolding kept_at
forgot_kept n m t = ap kept_of (value_mapped (letting n) t m) ∙ at (same m n) (value_at t m)
  where
    at : (c : Bool) (o : Option Node) → kept_of (value_by (λ k v. cond c (without_answers v) v) m o) ≡ cond c [] (kept_of o)
    at true None = refl
    at true (Some v) = refl
    at false None = refl
    at false (Some v) = refl

same_turn : (m n : NodeId) → same m n ≡ same n m
same_turn m n = at (cases_Bool (same n m))
  where
    at : (same n m ≡ true) ⊎ (same n m ≡ false) → same m n ≡ same n m
    at (inl e) = (λ i. same (sym (same_is n m e) i) (same_is n m e i))
    at (inr e) = same_not m n (λ q. not_same n m e (sym q)) ∙ sym e

pub forgets_kept : (ns : List NodeId) (t : NodeTrees) (n : NodeId) → kept_at (forgets without_answers ns t) n ≡ (if is_among n ns then [] else kept_at t n)
forgets_kept [] t n = refl
forgets_kept (m ∷ ns) t n = forgets_kept ns (forgot without_answers m t) n ∙ ap (λ l. cond (is_among n ns) [] l) (forgot_kept m n t ∙ ap (λ b. cond b [] (kept_at t n)) (same_turn n m)) ∙ at (is_among n ns) (same m n)
  where
    at : (b c : Bool) → cond b [] (cond c [] (kept_at t n)) ≡ cond (c || b) [] (kept_at t n)
    at true true = refl
    at true false = refl
    at false true = refl
    at false false = refl

forgot_past : (n m : NodeId) (t : NodeTrees) → past_at (forgot without_answers n t) m ≡ past_at t m
unfolding past_at
forgot_past n m t = ap past_of (value_mapped (letting n) t m) ∙ at (same m n) (value_at t m)
  where
    at : (c : Bool) (o : Option Node) → past_of (value_by (λ k v. cond c (without_answers v) v) m o) ≡ past_of o
    at true None = refl
    at true (Some v) = refl
    at false None = refl
    at false (Some v) = refl

pub forgets_past : (ns : List NodeId) (t : NodeTrees) (n : NodeId) → past_at (forgets without_answers ns t) n ≡ past_at t n
forgets_past [] t n = refl
forgets_past (m ∷ ns) t n = forgets_past ns (forgot without_answers m t) n ∙ forgot_past m n t

-- ---- turns
pub next_gone : (n : ℕ) → HasGone n (next_turn n)
next_gone n = at (nat_lt n last_turn) refl
  where
    at : (c : Bool) → nat_lt n last_turn ≡ c → HasGone n (if c then n + 1 else n)
    at true e = record { later = omega arith; last = λ q. absurd (omega (arith, q)) }
    at false e = record { later = omega arith; last = λ q. ltb-false n last_turn e }

pub gone_twice : (x y z : ℕ) → HasGone x y → HasGone y z → HasGone x z
gone_twice x y z g h = record { later = omega (arith, g.later, h.later); last = λ e. h.last (omega (arith, g.later, h.later, e)) }

-- a turn that went on once or stayed, and once more
pub turn_twice : (b c : Bool) (x y z : ℕ) → HasTurn b x y → HasTurn c y z → HasTurn (b || c) x z
turn_twice true true x y z g h = gone_twice x y z g h
turn_twice true false x y z g h = subst (HasGone x) (sym h) g
turn_twice false true x y z g h = subst (λ k. HasGone k z) g h
turn_twice false false x y z g h = h ∙ g

forgot_turn : (n m : NodeId) (t : NodeTrees) → IsLive (bare t) m → HasTurn (same m n) (turn_at t m) (turn_at (forgot without_answers n t) m)
unfolding turn_at
forgot_turn n m t l = subst (λ o. HasTurn (same m n) (turn_of (value_at t m)) (turn_of o)) (sym (value_mapped (letting n) t m)) (at (same m n) (value_at t m) (value_some t m l))
  where
    at : (c : Bool) (o : Option Node) → IsSome o → HasTurn c (turn_of o) (turn_of (value_by (λ k v. cond c (without_answers v) v) m o))
    at c None l = absurd cc
    at true (Some v) l = next_gone v.turn
    at false (Some v) l = refl

-- the turns of those that are there, of which some went
pub forgets_turn : (ns : List NodeId) (t : NodeTrees) (n : NodeId) → IsLive (bare t) n → HasTurn (is_among n ns) (turn_at t n) (turn_at (forgets without_answers ns t) n)
forgets_turn [] t n l = refl
forgets_turn (m ∷ ns) t n l =
    turn_twice (same m n) (is_among n ns) (turn_at t n) (turn_at (forgot without_answers m t) n) (turn_at (forgets without_answers ns (forgot without_answers m t)) n)
    (subst (λ b. HasTurn b (turn_at t n) (turn_at (forgot without_answers m t) n)) (same_turn n m) (forgot_turn m n t l))
    (forgets_turn ns (forgot without_answers m t) n (subst (λ b. IsLive b n) (sym (forgot_bare m t)) l))

pub forgets_right : (ns : List NodeId) (t : NodeTrees) → IsRight t → IsRight (forgets without_answers ns t)
forgets_right ns t r = still_right t (forgets without_answers ns t) r (λ n. at n (is_among n ns) (forgets_kept ns t n)) (λ n. inr (held n)) (λ n l. turned n (live n l))
  where
    at : (n : NodeId) (b : Bool) → kept_at (forgets without_answers ns t) n ≡ cond b [] (kept_at t n) → KeepsOn t (forgets without_answers ns t) n
    at n true e = inl e
    at n false e = inr (record { kept = e; sight = ap (λ b. sight_at b n) (forgets_bare ns t); children = ap (λ b. children_at b n) (forgets_bare ns t) })

    held : (n : NodeId) → HoldsSame t (forgets without_answers ns t) n
    held n =
        record {
          past = forgets_past ns t n;
          label = ap (λ b. (sight_at b n).label) (forgets_bare ns t);
          chain = ap (λ b. (sight_at b n).chain) (forgets_bare ns t);
          siblings = ap (λ b. map standing_of (siblings_of (sight_at b n).below)) (forgets_bare ns t);
          children = ap (λ b. children_at b n) (forgets_bare ns t);
        }

    live : (n : NodeId) → IsLive (bare (forgets without_answers ns t)) n → IsLive (bare t) n
    live n l = subst (λ b. IsLive b n) (forgets_bare ns t) l

    by : (n : NodeId) (b : Bool) → HasTurn b (turn_at t n) (turn_at (forgets without_answers ns t) n) → IsTurned t (forgets without_answers ns t) n
    by n true g = record { later = g.later; same = λ e l. ap (λ b. sight_at b n) (forgets_bare ns t) }
    by n false e = record { later = omega (arith, e); same = λ g l. ap (λ b. sight_at b n) (forgets_bare ns t) }

    turned : (n : NodeId) → IsLive (bare t) n → IsTurned t (forgets without_answers ns t) n
    turned n l = by n (is_among n ns) (forgets_turn ns t n l)

-- ---- what is kept longer goes from one node, or stays
pub past_goes : (all : Bool) (v : Node) (p : Past) → (all || is_subgrid_node v) ≡ true → p ≡ no_past → ◌≡◌ {A = Node} (record v { past = p }) (without_past_of all v)
past_goes all v p e none = ap (λ q. record v { past = q }) none ∙ sym (ap (λ b. if b then without_past v else v) e)

pub past_remains : (all : Bool) (v : Node) → (all || is_subgrid_node v) ≡ false → v ≡ without_past_of all v
past_remains all v e = sym (ap (λ b. if b then without_past v else v) e)

pub ruleset goes_or_stays = (past_goes, past_remains)

-- ---- contexts and areas let go, of all nodes or of those alone that may be subgrids
module _ (all : Bool) where
  abbrev dropping : NodeId → NodeId → Node → Node
  dropping n k v = cond (same k n) (without_past_of all v) v

  bare_without : (v : Node) → bare_of (without_past_of all v) ≡ bare_of v
  bare_without v = at (all || is_subgrid_node v)
    where
      at : (c : Bool) → bare_of (if c then without_past v else v) ≡ bare_of v
      at true = refl
      at false = refl

  bare_dropping : (n k : NodeId) (v : Node) → bare_of (dropping n k v) ≡ bare_of v
  bare_dropping n k v = at (same k n)
    where
      at : (c : Bool) → bare_of (cond c (without_past_of all v) v) ≡ bare_of v
      at true = bare_without v
      at false = refl

  dropped_bare : (n : NodeId) (t : NodeTrees) → bare (forgot (without_past_of all) n t) ≡ bare t
  unfolding bare
  dropped_bare n t = mapped_twice (dropping n) (λ k v. bare_of v) t ∙ mapped_same (λ k v. bare_of (dropping n k v)) (λ k v. bare_of v) t (bare_dropping n)

  pub drops_bare : (ns : List NodeId) (t : NodeTrees) → bare (forgets (without_past_of all) ns t) ≡ bare t
  drops_bare [] t = refl
  drops_bare (n ∷ ns) t = drops_bare ns (forgot (without_past_of all) n t) ∙ dropped_bare n t

  kept_without : (v : Node) → (without_past_of all v).kept ≡ v.kept
  kept_without v = at (all || is_subgrid_node v)
    where
      at : (c : Bool) → (if c then without_past v else v).kept ≡ v.kept
      at true = refl
      at false = refl

  dropped_kept : (n m : NodeId) (t : NodeTrees) → kept_at (forgot (without_past_of all) n t) m ≡ kept_at t m
  unfolding kept_at
  dropped_kept n m t = ap kept_of (value_mapped (dropping n) t m) ∙ at (same m n) (value_at t m)
    where
      at : (c : Bool) (o : Option Node) → kept_of (value_by (λ k v. cond c (without_past_of all v) v) m o) ≡ kept_of o
      at true None = refl
      at true (Some v) = kept_without v
      at false None = refl
      at false (Some v) = refl

  pub drops_kept : (ns : List NodeId) (t : NodeTrees) (n : NodeId) → kept_at (forgets (without_past_of all) ns t) n ≡ kept_at t n
  drops_kept [] t n = refl
  drops_kept (m ∷ ns) t n = drops_kept ns (forgot (without_past_of all) m t) n ∙ dropped_kept m n t

  goes_without : (v : Node) → (all || is_subgrid_node (without_past_of all v)) ≡ (all || is_subgrid_node v)
  goes_without v = at (all || is_subgrid_node v)
    where
      at : (c : Bool) → (all || is_subgrid_node (if c then without_past v else v)) ≡ (all || is_subgrid_node v)
      at true = refl
      at false = refl

  dropped_goes : (n m : NodeId) (t : NodeTrees) → goes_at all (forgot (without_past_of all) n t) m ≡ goes_at all t m
  unfolding goes_at
  dropped_goes n m t = ap (goes_from all) (value_mapped (dropping n) t m) ∙ at (same m n) (value_at t m)
    where
      at : (c : Bool) (o : Option Node) → goes_from all (value_by (λ k v. cond c (without_past_of all v) v) m o) ≡ goes_from all o
      at true None = refl
      at true (Some v) = goes_without v
      at false None = refl
      at false (Some v) = refl

  dropped_past : (n m : NodeId) (t : NodeTrees) → past_at (forgot (without_past_of all) n t) m ≡ (if same m n && goes_at all t m then no_past else past_at t m)
  unfolding past_at goes_at
  dropped_past n m t = ap past_of (value_mapped (dropping n) t m) ∙ at (same m n) (value_at t m)
    where
      none : (b : Bool) → no_past ≡ cond b no_past no_past
      none true = refl
      none false = refl

      one : (v : Node) (b : Bool) → (if b then without_past v else v).past ≡ cond b no_past v.past
      one v true = refl
      one v false = refl

      at : (c : Bool) (o : Option Node) → past_of (value_by (λ k v. cond c (without_past_of all v) v) m o) ≡ cond (c && goes_from all o) no_past (past_of o)
      at true None = none all
      at true (Some v) = one v (all || is_subgrid_node v)
      at false None = refl
      at false (Some v) = refl

  pub drops_past : (ns : List NodeId) (t : NodeTrees) (n : NodeId) → past_at (forgets (without_past_of all) ns t) n ≡ (if is_among n ns && goes_at all t n then no_past else past_at t n)
  drops_past [] t n = refl
  drops_past (m ∷ ns) t n =
      drops_past ns (forgot (without_past_of all) m t) n
      ∙ ap (λ g. cond (is_among n ns && g) no_past (past_at (forgot (without_past_of all) m t) n)) (dropped_goes m n t)
      ∙ ap (λ l. cond (is_among n ns && goes_at all t n) no_past l) (dropped_past m n t ∙ ap (λ b. cond (b && goes_at all t n) no_past (past_at t n)) (same_turn n m))
      ∙ at (is_among n ns) (same m n) (goes_at all t n)
    where
      at : (b c g : Bool) → cond (b && g) no_past (cond (c && g) no_past (past_at t n)) ≡ cond ((c || b) && g) no_past (past_at t n)
      at true true true = refl
      at true true false = refl
      at true false true = refl
      at true false false = refl
      at false true true = refl
      at false true false = refl
      at false false true = refl
      at false false false = refl

  turn_without : (v : Node) → (without_past_of all v).turn ≡ v.turn
  turn_without v = at (all || is_subgrid_node v)
    where
      at : (c : Bool) → (if c then without_past v else v).turn ≡ v.turn
      at true = refl
      at false = refl

  dropped_turn : (n m : NodeId) (t : NodeTrees) → turn_at (forgot (without_past_of all) n t) m ≡ turn_at t m
  unfolding turn_at
  dropped_turn n m t = ap turn_of (value_mapped (dropping n) t m) ∙ at (same m n) (value_at t m)
    where
      at : (c : Bool) (o : Option Node) → turn_of (value_by (λ k v. cond c (without_past_of all v) v) m o) ≡ turn_of o
      at true None = refl
      at true (Some v) = turn_without v
      at false None = refl
      at false (Some v) = refl

  pub drops_turn : (ns : List NodeId) (t : NodeTrees) (n : NodeId) → turn_at (forgets (without_past_of all) ns t) n ≡ turn_at t n
  drops_turn [] t n = refl
  drops_turn (m ∷ ns) t n = drops_turn ns (forgot (without_past_of all) m t) n ∙ dropped_turn m n t

  pub drops_right : (ns : List NodeId) (t : NodeTrees) → IsRight t → IsRight (forgets (without_past_of all) ns t)
  drops_right ns t r =
      still_right t (forgets (without_past_of all) ns t) r (λ n. inr (kept n)) (λ n. at n (is_among n ns && goes_at all t n) (drops_past ns t n))
      (λ n l. record { later = omega (arith, drops_turn ns t n); same = λ e m. ap (λ b. sight_at b n) (drops_bare ns t) })
    where
      kept : (n : NodeId) → KeepsSame t (forgets (without_past_of all) ns t) n
      kept n = record { kept = drops_kept ns t n; sight = ap (λ b. sight_at b n) (drops_bare ns t); children = ap (λ b. children_at b n) (drops_bare ns t) }

      at : (n : NodeId) (b : Bool) → past_at (forgets (without_past_of all) ns t) n ≡ cond b no_past (past_at t n) → HoldsOn t (forgets (without_past_of all) ns t) n
      at n true e = inl e
      at n false e =
          inr (record {
            past = e;
            label = ap (λ b. (sight_at b n).label) (drops_bare ns t);
            chain = ap (λ b. (sight_at b n).chain) (drops_bare ns t);
            siblings = ap (λ b. map standing_of (siblings_of (sight_at b n).below)) (drops_bare ns t);
            children = ap (λ b. children_at b n) (drops_bare ns t);
          })
