-- Where no node is asked more questions than it keeps answers, each question is answered once.
use Rattle.std.proofs.Common.{◌≡◌, ◌≢◌, refl, sym, ap, ◌∙◌, subst, arith, ℕ, zero, suc, ◌-◌, ◌≤◌, Bool, true, false, List, [], ◌∷◌, ◌++◌, map, length, drop, inl, inr}
use Rattle.std.specs.Prelude.{◌⊎◌, ◌&&◌, Contains, if◌then◌else◌}
use Rattle.std.specs.Str.{bytes_eq}
use Rattle.std.proofs.lemmas.Bool.{and_parts, and_from, false≢true}
use Rattle.std.proofs.lemmas.List.{append_assoc, append-nil, length-append, length-map, map-append}
use Rattle.std.proofs.lemmas.Slice.Eq.{bytes_eq-Decides}
use Rattle.node_arena.specs.declared.number.NodeId.{NodeId}
use Rattle.node_arena.specs.Numbers.{same}
use Rattle.node_arena.proofs.Same.{same_from, same_is}
use Rattle.layout_cache.proofs.Sames.{query_is, query_refl}
use Rattle.tree_rules.specs.AskedQueries.{ToNode}
use Rattle.tree_rules.specs.KeptAnswers.{IsAbsent}
use Rattle.tree_rules.specs.Queries.{same_query}
use Rattle.tree_rules.specs.declared.query.Query.{Query}
use Rattle.placing.specs.declared.node.Answer.{Answer}
use Rattle.placing.specs.Nodes.{BareTrees}
use Rattle.placing.specs.Walks.{AreAsked, AreFresh, Entry, entries_of, kept_with}
use Rattle.asked_names.specs.Asked.{AllDiffer, AreFew, AreNamed, IsListed, IsNone, name_in, questions_to, told_of}
use Rattle.asked_names.proofs.Pigeons.{AllStand, behind, differ_put, few_stand, in_cases, in_front, none_in}

-- ---- questions to nodes by name

same_told : ToNode → ToNode → Bool
same_told s t = bytes_eq s.0 t.0 && same_query s.1 t.1

told_refl : (t : ToNode) → same_told t t ≡ true
unfolding same_told
told_refl t = and_from (bytes_eq t.0 t.0) (same_query t.1 t.1) ((bytes_eq-Decides t.0 t.0).1 refl) (query_refl t.1)

told_is : (s t : ToNode) → same_told s t ≡ true → s ≡ t
unfolding same_told
told_is s t e =
    let parts = and_parts (bytes_eq s.0 t.0) (same_query s.1 t.1) e in
    λ i. ((bytes_eq-Decides s.0 t.0).0 parts.0 i, query_is s.1 t.1 parts.1 i)

among : (name : List ℕ) (q : Query) (all : List ToNode) → Contains all (name, q) → Contains (questions_to name all) q
among name q [] h = absurd (none_in {A = ToNode} (name, q) h)
among name q (t ∷ rest) h = at (bytes_eq t.0 name) refl (in_cases {A = ToNode} t (name, q) rest h) (among name q rest)
  where
    at : (b : Bool) → bytes_eq t.0 name ≡ b → (t ≡ (name, q)) ⊎ Contains {X = ToNode} rest (name, q) → (Contains {X = ToNode} rest (name, q) → Contains (questions_to name rest) q)
        → Contains (if b then t.1 ∷ questions_to name rest else questions_to name rest) q
    at true e (inl k) f = subst (λ (z : Query). Contains (t.1 ∷ questions_to name rest) z) (ap (λ (u : ToNode). u.1) k) (in_front t.1 (questions_to name rest))
    at true e (inr k) f = behind t.1 q (questions_to name rest) (f k)
    at false e (inl k) f = absurd (false≢true (sym e ∙ (bytes_eq-Decides t.0 name).1 (ap (λ (u : ToNode). u.0) k)))
    at false e (inr k) f = f k

-- ---- the last of the kept answers

absent_drop : (q : Query) (k : ℕ) (old new : List (Query × Answer)) → k ≤ length old → IsAbsent q (drop k (old ++ new)) → IsAbsent q new
absent_drop q zero [] new h a = a
absent_drop q zero (x ∷ old) new h a = absent_drop q zero old new (omega arith) a.1
absent_drop q (suc k) [] new h a = absurd (omega (arith, h))
absent_drop q (suc k) (x ∷ old) new h a = absent_drop q k old new (omega (arith, h)) a

absent_new : (q : Query) (old new : List (Query × Answer)) → length new ≤ 16 → IsAbsent q (kept_with old new) → IsAbsent q new
absent_new q old new few a = absent_drop q (length (old ++ new) - 16) old new (omega (arith, length-append old new)) a

-- ---- entries of one node

asks_of : NodeId → List Entry → List Query
asks_of n done = map (λ (p : Query × Answer). p.0) (entries_of n done)

count_asks : (n : NodeId) (done : List Entry) → length (asks_of n done) ≡ length (entries_of n done)
unfolding asks_of
count_asks n done = length-map (entries_of n done) (λ (p : Query × Answer). p.0)

module _ (b : BareTrees) where
  told : List Entry → List ToNode
  told done = map (told_of b) done

  -- what differs from it has another question, where it is of the same node
  other_asks : (n : NodeId) (e : Entry) (done : List Entry) → e.node ≡ n → IsNone (told_of b e) (told done) → IsNone e.query (asks_of n done)
  unfolding told asks_of
  other_asks n e [] is h = tt
  other_asks n e (r ∷ rest) is h = at (same r.node n) refl (other_asks n e rest is h.1)
    where
      at : (t : Bool) → same r.node n ≡ t → IsNone e.query (asks_of n rest) → IsNone e.query (map (λ (p : Query × Answer). p.0) ((if t then (r.query, r.answer) ∷ [] else []) ++ entries_of n rest))
      at true s k = (λ same_query. absurd (h.0 (λ j. (name_in b ((same_is r.node n s ∙ sym is) j), same_query j))), k)
      at false s k = k

  asks_differ : (n : NodeId) (done : List Entry) → AllDiffer (told done) → AllDiffer (asks_of n done)
  unfolding told asks_of
  asks_differ n [] h = tt
  asks_differ n (e ∷ rest) h = at (same e.node n) refl (asks_differ n rest h.1)
    where
      at : (t : Bool) → same e.node n ≡ t → AllDiffer (asks_of n rest) → AllDiffer (map (λ (p : Query × Answer). p.0) ((if t then (e.query, e.answer) ∷ [] else []) ++ entries_of n rest))
      at true s k = (other_asks n e rest (same_is e.node n s) h.0, k)
      at false s k = k

  grown : (done : List Entry) (e : Entry) → AllDiffer (told done) → IsNone (told_of b e) (told done) → AllDiffer (told (done ++ e ∷ []))
  unfolding told
  grown done e d none = subst AllDiffer (sym (map-append (told_of b) done (e ∷ []))) (differ_put (map (told_of b) done) (told_of b e) d none)

  module _ (all : List ToNode) where
    asks_stand : (n : NodeId) (done : List Entry) → AreAsked (IsListed b all) done → AllStand (questions_to (name_in b n) all) (asks_of n done)
    unfolding asks_of
    asks_stand n [] h = tt
    asks_stand n (e ∷ rest) h = at (same e.node n) refl (asks_stand n rest h.1)
      where
        at : (t : Bool) → same e.node n ≡ t → AllStand (questions_to (name_in b n) all) (asks_of n rest)
            → AllStand (questions_to (name_in b n) all) (map (λ (p : Query × Answer). p.0) ((if t then (e.query, e.answer) ∷ [] else []) ++ entries_of n rest))
        at true s k = (among (name_in b n) e.query all (subst (λ (m : NodeId). Contains {X = ToNode} all (name_in b m, e.query)) (same_is e.node n s) h.0.listed), k)
        at false s k = k

    all_stand : (done : List Entry) → AreAsked (IsListed b all) done → AllStand all (told done)
    unfolding told
    all_stand [] h = tt
    all_stand (e ∷ rest) h = (h.0.listed, all_stand rest h.1)

    module _ (named : AreNamed b) (few : AreFew all) where
      few_of : (n : NodeId) (done : List Entry) → AreAsked (IsListed b all) done → AllDiffer (told done) → length (entries_of n done) ≤ 16
      few_of n done h d =
          omega (arith, few (name_in b n), count_asks n done, few_stand same_query query_refl query_is (asks_of n done) (questions_to (name_in b n) all) (asks_differ n done d) (asks_stand n done h))

      -- a question that its node was not asked
      not_told : (e : Entry) (done : List Entry) → IsListed b all e.node e.query → AreAsked (IsListed b all) done → IsAbsent e.query (entries_of e.node done) → IsNone (told_of b e) (told done)
      unfolding told
      not_told e [] k h a = tt
      not_told e (r ∷ rest) k h a = at (same r.node e.node) refl (not_told e rest k h.1) a
        where
          at : (t : Bool) → same r.node e.node ≡ t → (IsAbsent e.query (entries_of e.node rest) → IsNone (told_of b e) (map (told_of b) rest)) → IsAbsent e.query ((if t then (r.query, r.answer) ∷ [] else []) ++ entries_of e.node rest)
              → (told_of b r ≢ told_of b e) × IsNone (told_of b e) (map (told_of b) rest)
          at true s f z = (λ same_one. absurd (z.0 (ap (λ (u : ToNode). u.1) same_one)), f z.1)
          at false s f z = (λ same_one. absurd (false≢true (sym s ∙ same_from r.node e.node (named r.node e.node h.0.live k.live (ap (λ (u : ToNode). u.0) same_one)))), f z)

      asked_put : (done : List Entry) (e : Entry) → AreAsked (IsListed b all) done → IsListed b all e.node e.query → AreAsked (IsListed b all) (done ++ e ∷ [])
      asked_put [] e h k = (k, tt)
      asked_put (x ∷ done) e h k = (h.0, asked_put done e h.1 k)

      once_from : (kept : NodeId → List (Query × Answer)) (done rest : List Entry) → AreAsked (IsListed b all) done → AllDiffer (told done) → AreAsked (IsListed b all) rest → AreFresh kept done rest → AllDiffer (told (done ++ rest))
      once_from kept done [] h d k fresh = subst (λ (l : List Entry). AllDiffer (told l)) (sym (append-nil done)) d
      once_from kept done (e ∷ rest) h d k fresh =
          let absent = absent_new e.query (kept e.node) (entries_of e.node done) (few_of e.node done h d) fresh.0 in
          let more : AllDiffer (told (done ++ e ∷ [])) = grown done e d (not_told e done k.0 h absent) in
          subst (λ (l : List Entry). AllDiffer (told l)) (append_assoc done (e ∷ []) rest) (once_from kept (done ++ e ∷ []) rest (asked_put done e h k.0) more k.1 fresh.1)

      pub differ_all : (kept : NodeId → List (Query × Answer)) (entries : List Entry) → AreAsked (IsListed b all) entries → AreFresh kept [] entries → AllDiffer (map (told_of b) entries)
      unfolding told
      differ_all kept entries h fresh = once_from kept [] entries tt tt h fresh

      pub few_all : (kept : NodeId → List (Query × Answer)) (entries : List Entry) → AreAsked (IsListed b all) entries → AreFresh kept [] entries → length entries ≤ length all
      unfolding told
      few_all kept entries h fresh =
          omega (arith, length-map entries (told_of b), few_stand same_told told_refl told_is (map (told_of b) entries) all (differ_all kept entries h fresh) (all_stand entries h))
