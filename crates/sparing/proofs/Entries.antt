-- What is kept anew is not measured needlessly, and what a leaf keeps is then the last of what was measured for it.
use Rattle.std.proofs.Common.{◌≡◌, refl, ap, sym, subst, ◌∙◌, ℕ, zero, suc, ◌+◌, ◌-◌, ◌≤◌, Bool, true, false, cond, List, [], ◌∷◌, ◌++◌, length, drop, map, append_assoc, append-nil, length-append, length-drop, arith, inl, inr}
use Rattle.std.specs.Prelude.{ℤ, pos, ⊤}
use Rattle.std.specs.Str.{bytes_eq}
use Rattle.std.proofs.lemmas.Bool.{false≢true, true≢false, false_from_ne_true}
use Rattle.std.proofs.lemmas.Slice.Eq.{bytes_eq-Decides}
use Rattle.node_arena.specs.declared.number.NodeId.{NodeId}
use Rattle.node_arena.specs.Numbers.{same}
use Rattle.node_arena.proofs.Same.{same_is, same_from}
use Rattle.outside.specs.declared.event.Event.{Event}
use Rattle.outside.specs.declared.event.Width.{Width}
use Rattle.outside.specs.declared.event.Width.TheVariants.{Narrowest, At}
use Rattle.placing.specs.declared.node.Answer.{Answer}
use Rattle.placing.specs.declared.node.Answer.TheVariants.{Block}
use Rattle.placing.specs.Nodes.{BareTrees, sight_at}
use Rattle.placing.specs.Walks.{AreFresh, Entry, entries_of, events_at, events_by, events_of, kept_with, leaf_events}
use Rattle.placing.proofs.Walks.{kept_few, kept_none}
use Rattle.tree_rules.specs.declared.kind.NodeKind.{NodeKind}
use Rattle.tree_rules.specs.declared.kind.NodeKind.TheVariants as kind
use Rattle.tree_rules.specs.declared.query.Given.TheVariants as given
use Rattle.tree_rules.specs.declared.query.Query.{Query}
use Rattle.tree_rules.specs.AskedQueries.{block_query}
use Rattle.tree_rules.specs.KeptAnswers.{IsAbsent, last_of, most_kept}
use Rattle.tree_rules.specs.Queries.{is_container}
use Rattle.sparing.specs.Memory.{AreLeafQueries, AreNamed, IsFirst, IsLeaf, IsLeafQuery, Recalls, RecallsLeaf, Remembers, since, spread, width_by, width_of}
use Rattle.sparing.specs.Sparing.{AreSpared, IsNoneOf, Touches}
use Rattle.sparing.proofs.Memory.{last_sixteen, marks, remembers_put, since_marks, since_others, spared_new}

-- ---- events one after another

pub spared_more : (touches : Touches) (done xs ys : List Event) → AreSpared touches done xs → AreSpared touches (done ++ xs) ys → AreSpared touches done (xs ++ ys)
spared_more touches done [] ys p q = subst (λ (d : List Event). AreSpared touches d ys) (append-nil done) q
spared_more touches done (x ∷ xs) ys p q = (p.0, spared_more touches (done ++ x ∷ []) xs ys p.1 (subst (λ (d : List Event). AreSpared touches d ys) (sym (append_assoc done (x ∷ []) xs)) q))

pub spared_front : (touches : Touches) (done xs ys : List Event) → AreSpared touches done (xs ++ ys) → AreSpared touches done xs
spared_front touches done [] ys p = tt
spared_front touches done (x ∷ xs) ys p = (p.0, spared_front touches (done ++ x ∷ []) xs ys p.1)

-- ---- questions to a leaf, by their widths

width_first : (q : Query) → IsLeafQuery q → IsFirst (width_by q.ask q)
width_first q (inl e) = subst (λ (r : Query). IsFirst (width_by r.ask r)) (sym e) tt
width_first q (inr h) = subst (λ (r : Query). IsFirst (width_by r.ask r)) (sym h.1) tt

at_same : (v w : ℤ) → At v ≡ At w → v ≡ w
at_same v w e = cc

same_width : (q r : Query) → IsLeafQuery q → IsLeafQuery r → width_by q.ask q ≡ width_by r.ask r → q ≡ r
same_width q r (inl e) (inl f) w = e ∙ sym f
same_width q r (inl e) (inr h) w =
    let none : Narrowest ≡ At h.0 = sym (ap (λ (x : Query). width_by x.ask x) e) ∙ w ∙ ap (λ (x : Query). width_by x.ask x) h.1 in
    absurd (cc none)
same_width q r (inr h) (inl f) w =
    let none : Narrowest ≡ At h.0 = sym (ap (λ (x : Query). width_by x.ask x) f) ∙ sym w ∙ ap (λ (x : Query). width_by x.ask x) h.1 in
    absurd (cc none)
same_width q r (inr h) (inr k) w =
    let widths : At h.0 ≡ At k.0 = sym (ap (λ (x : Query). width_by x.ask x) h.1) ∙ w ∙ ap (λ (x : Query). width_by x.ask x) k.1 in
    h.1 ∙ ap (λ (v : ℤ). block_query false [] (given.Size v)) (at_same h.0 k.0 widths) ∙ sym k.1

-- a question of which no answer is kept is for a width that is not remembered
new_width : (q : Query) (kept : List (Query × Answer)) → IsLeafQuery q → AreLeafQueries kept → IsAbsent q kept → IsNoneOf (width_by q.ask q) (map width_of kept)
new_width q [] h all absent = tt
new_width q (e ∷ kept) h all absent = ((λ same_one. absent.0 (same_width e.0 q all.0 h same_one)), new_width q kept h all.1 absent.1)

leaf_marks : (name : List ℕ) (q : Query) → IsLeafQuery q → leaf_events name q.ask q ≡ marks name (spread (width_by q.ask q))
leaf_marks name q (inl e) = subst (λ (r : Query). leaf_events name r.ask r ≡ marks name (spread (width_by r.ask r))) (sym e) refl
leaf_marks name q (inr h) = subst (λ (r : Query). leaf_events name r.ask r ≡ marks name (spread (width_by r.ask r))) (sym h.1) refl

by_leaf : (k : NodeKind) (name : List ℕ) (q : Query) → is_container k ≡ false → events_by k name q ≡ leaf_events name q.ask q
by_leaf kind.Grid name q e = absurd (true≢false e)
by_leaf kind.Flex name q e = absurd (true≢false e)
by_leaf (kind.Leaf content) name q e = refl

by_container : (k : NodeKind) (name : List ℕ) (q : Query) → is_container k ≡ true → events_by k name q ≡ []
by_container kind.Grid name q e = refl
by_container kind.Flex name q e = refl
by_container (kind.Leaf content) name q e = absurd (false≢true e)

-- ---- lists that keep their last answers

drop_map : {A B : Type 0} (f : A → B) (n : ℕ) (xs : List A) → map f (drop n xs) ≡ drop n (map f xs)
drop_map f zero xs = refl
drop_map f (suc n) [] = refl
drop_map f (suc n) (x ∷ xs) = drop_map f n xs

map_push : {A B : Type 0} (f : A → B) (xs : List A) (x : A) → map f (xs ++ x ∷ []) ≡ map f xs ++ f x ∷ []
map_push f [] x = refl
map_push f (y ∷ xs) x = ap (λ l. f y ∷ l) (map_push f xs x)

pub length_map : {A B : Type 0} (f : A → B) (xs : List A) → length (map f xs) ≡ length xs
length_map f [] = refl
length_map f (x ∷ xs) = omega (arith, length_map f xs)

last_map : (kept : List (Query × Answer)) (e : Query × Answer) → map width_of (last_of 16 (kept ++ e ∷ [])) ≡ last_sixteen (map width_of kept ++ width_of e ∷ [])
last_map kept e =
    drop_map width_of (length (kept ++ e ∷ []) - 16) (kept ++ e ∷ [])
    ∙ ap (λ (n : ℕ). drop (n - 16) (map width_of (kept ++ e ∷ []))) (sym (length_map width_of (kept ++ e ∷ [])))
    ∙ ap last_sixteen (map_push width_of kept e)

queries_push : (kept : List (Query × Answer)) (e : Query × Answer) → AreLeafQueries kept → IsLeafQuery e.0 → AreLeafQueries (kept ++ e ∷ [])
queries_push [] e p q = (q, tt)
queries_push (x ∷ kept) e p q = (p.0, queries_push kept e p.1 q)

queries_drop : (n : ℕ) (kept : List (Query × Answer)) → AreLeafQueries kept → AreLeafQueries (drop n kept)
queries_drop zero kept p = p
queries_drop (suc n) [] p = tt
queries_drop (suc n) (x ∷ kept) p = queries_drop n kept p.1

drop_none : {A : Type 0} (n : ℕ) → drop {A = A} n [] ≡ []
drop_none zero = refl
drop_none (suc n) = refl

drop_seam : {A : Type 0} (n : ℕ) (xs ys : List A) → n ≤ length xs → drop n (xs ++ ys) ≡ drop n xs ++ ys
drop_seam zero xs ys h = refl
drop_seam (suc n) [] ys h = absurd (omega arith)
drop_seam (suc n) (x ∷ xs) ys h = drop_seam n xs ys (omega arith)

drop_twice : {A : Type 0} (i j : ℕ) (xs : List A) → drop j (drop i xs) ≡ drop (i + j) xs
drop_twice zero j xs = let e : 0 + j ≡ j = omega arith in ap (λ k. drop k xs) (sym e)
drop_twice (suc i) j [] = drop_none j ∙ sym (drop_none (suc i + j))
drop_twice (suc i) j (x ∷ xs) = let e : suc i + j ≡ suc (i + j) = omega arith in drop_twice i j xs ∙ ap (λ k. drop k (x ∷ xs)) (sym e)

last_twice : {A : Type 0} (n : ℕ) (xs ys : List A) → last_of n (last_of n xs ++ ys) ≡ last_of n (xs ++ ys)
last_twice n xs ys =
    let k : length xs - n ≤ length xs = omega arith in
    let m : (length xs - n) + (length (drop (length xs - n) xs ++ ys) - n) ≡ length (xs ++ ys) - n = omega (arith, length-append (drop (length xs - n) xs) ys, length-append xs ys, length-drop (length xs - n) xs) in
    ap (drop (length (drop (length xs - n) xs ++ ys) - n)) (sym (drop_seam (length xs - n) xs ys k)) ∙ drop_twice (length xs - n) (length (drop (length xs - n) xs ++ ys) - n) (xs ++ ys) ∙ ap (λ i. drop i (xs ++ ys)) m

entries_push : (n : NodeId) (xs : List Entry) (e : Entry) → entries_of n (xs ++ e ∷ []) ≡ entries_of n xs ++ cond (same e.node n) ((e.query, e.answer) ∷ []) []
entries_push n [] e = append-nil (cond (same e.node n) ((e.query, e.answer) ∷ []) [])
entries_push n (x ∷ xs) e =
    let own = cond (same x.node n) ((x.query, x.answer) ∷ []) [] in
    ap (λ z. own ++ z) (entries_push n xs e) ∙ sym (append_assoc own (entries_of n xs) (cond (same e.node n) ((e.query, e.answer) ∷ []) []))

-- what a node keeps after entries, and after one more
module _ (kept : NodeId → List (Query × Answer)) (prior : List Entry) where
  abbrev pub kept_after : NodeId → List (Query × Answer)
  kept_after n = kept_with (kept n) (entries_of n prior)

module _ (kept : NodeId → List (Query × Answer)) (prior : List Entry) (e : Entry) (n : NodeId) where
  kept_push : kept_after kept (prior ++ e ∷ []) n ≡ last_of most_kept (kept_after kept prior n ++ cond (same e.node n) ((e.query, e.answer) ∷ []) [])
  kept_push =
      ap (kept_with (kept n)) (entries_push n prior e)
      ∙ ap (last_of most_kept) (sym (append_assoc (kept n) (entries_of n prior) (cond (same e.node n) ((e.query, e.answer) ∷ []) [])))
      ∙ sym (last_twice most_kept (kept n ++ entries_of n prior) (cond (same e.node n) ((e.query, e.answer) ∷ []) []))

  kept_own : same e.node n ≡ true → kept_after kept (prior ++ e ∷ []) n ≡ last_of most_kept (kept_after kept prior n ++ (e.query, e.answer) ∷ [])
  kept_own h = kept_push ∙ ap (λ (b : Bool). last_of most_kept (kept_after kept prior n ++ cond b ((e.query, e.answer) ∷ []) [])) h

  kept_other : same e.node n ≡ false → kept_after kept (prior ++ e ∷ []) n ≡ kept_after kept prior n
  kept_other h = kept_push ∙ ap (λ (b : Bool). last_of most_kept (kept_after kept prior n ++ cond b ((e.query, e.answer) ∷ []) [])) h ∙ kept_none (kept_after kept prior n) (kept_few (kept n) (entries_of n prior))

-- ---- an entry

-- the questions of entries of leaves are such as are asked of leaves
abbrev pub AreAskedOfLeaves : BareTrees → List Entry → Type 0
AreAskedOfLeaves b [] = ⊤
AreAskedOfLeaves b (e ∷ rest) = (IsLeaf b e.node → IsLeafQuery e.query) × AreAskedOfLeaves b rest

-- what a leaf recalls when one more answer is kept
recalls_put : (touches : Touches) (name : List ℕ) (done : List Event) (kept : List (Query × Answer)) (q : Query) (a : Answer) → RecallsLeaf touches name done kept → IsLeafQuery q → IsAbsent q kept
    → RecallsLeaf touches name (done ++ marks name (spread (width_by q.ask q))) (last_of most_kept (kept ++ (q, a) ∷ []))
recalls_put touches name done kept q a p h absent =
    let w = width_by q.ask q in
    record {
      widths =
          subst (λ (l : List Width). Remembers l (map width_of (last_of most_kept (kept ++ (q, a) ∷ [])))) (sym (since_marks touches name done (spread w)))
          (subst (Remembers (since touches name [] done ++ spread w)) (sym (last_map kept (q, a)))
          (remembers_put (since touches name [] done) w (width_first q h) (map width_of kept) p.widths (new_width q kept h p.queries absent)));
      queries = queries_drop (length (kept ++ (q, a) ∷ []) - most_kept) (kept ++ (q, a) ∷ []) (queries_push kept (q, a) p.queries h);
    }

recalls_kept : (touches : Touches) (name : List ℕ) (done : List Event) (kept now : List (Query × Answer)) → now ≡ kept → RecallsLeaf touches name done kept → RecallsLeaf touches name done now
recalls_kept touches name done kept now e p = subst (RecallsLeaf touches name done) (sym e) p

recalls_others : (touches : Touches) (name other : List ℕ) (done : List Event) (ws : List Width) (kept : List (Query × Answer)) → bytes_eq name other ≡ false → RecallsLeaf touches other done kept → RecallsLeaf touches other (done ++ marks name ws) kept
recalls_others touches name other done ws kept h p =
    record { widths = subst (λ (l : List Width). Remembers l (map width_of kept)) (sym (since_others touches name other done ws h)) p.widths; queries = p.queries }

-- events, and what the leaves recall after them
pub record SparesOn (touches : Touches) (b : BareTrees) (done events : List Event) (kept : NodeId → List (Query × Answer)) : Type 0 where
  pub spared : AreSpared touches done events
  pub recalls : Recalls touches b (done ++ events) kept

module _ (touches : Touches) (b : BareTrees) (named : AreNamed b) (kept : NodeId → List (Query × Answer)) where
  module _ (prior : List Entry) (e : Entry) (done : List Event) (p : Recalls touches b done (kept_after kept prior)) where
    name : List ℕ
    name = (sight_at b e.node).label.name

    -- of a leaf
    one_leaf : IsLeaf b e.node → IsLeafQuery e.query → IsAbsent e.query (kept_after kept prior e.node) → SparesOn touches b done (marks name (spread (width_by e.query.ask e.query))) (kept_after kept (prior ++ e ∷ []))
    unfolding name
    one_leaf leaf h absent =
        let w = width_by e.query.ask e.query in
        let own = p e.node leaf in
        record {
          spared = spared_new touches name done (map width_of (kept_after kept prior e.node)) own.widths w (width_first e.query h) (new_width e.query (kept_after kept prior e.node) h own.queries absent);
          recalls = λ n is. by_node n is (same e.node n) refl;
        }
      where
        by_node : (n : NodeId) → IsLeaf b n → (t : Bool) → same e.node n ≡ t → RecallsLeaf touches (sight_at b n).label.name (done ++ marks (sight_at b e.node).label.name (spread (width_by e.query.ask e.query))) (kept_after kept (prior ++ e ∷ []) n)
        by_node n is true t =
            subst (λ (m : NodeId). RecallsLeaf touches (sight_at b m).label.name (done ++ marks (sight_at b e.node).label.name (spread (width_by e.query.ask e.query))) (kept_after kept (prior ++ e ∷ []) m)) (same_is e.node n t)
            (recalls_kept touches _ _ _ _ (kept_own kept prior e e.node (same_from e.node e.node refl)) (recalls_put touches (sight_at b e.node).label.name done (kept_after kept prior e.node) e.query e.answer (p e.node leaf) h absent))
        by_node n is false t =
            let other : bytes_eq (sight_at b e.node).label.name (sight_at b n).label.name ≡ false = false_from_ne_true _ (λ f. absurd (false≢true (sym t ∙ same_from e.node n (named e.node n leaf is ((bytes_eq-Decides (sight_at b e.node).label.name (sight_at b n).label.name).0 f))))) in
            recalls_kept touches _ _ _ _ (kept_other kept prior e n t) (recalls_others touches (sight_at b e.node).label.name (sight_at b n).label.name done (spread (width_by e.query.ask e.query)) (kept_after kept prior n) other (p n is))

    -- of a container nothing is measured, and no leaf keeps it
    one_container : is_container (sight_at b e.node).label.kind ≡ true → Recalls touches b done (kept_after kept (prior ++ e ∷ []))
    one_container is n leaf = by_node (same e.node n) refl
      where
        by_node : (t : Bool) → same e.node n ≡ t → RecallsLeaf touches (sight_at b n).label.name done (kept_after kept (prior ++ e ∷ []) n)
        by_node true t = absurd (true≢false (sym is ∙ ap (λ (m : NodeId). is_container (sight_at b m).label.kind) (same_is e.node n t) ∙ leaf))
        by_node false t = recalls_kept touches _ _ _ _ (kept_other kept prior e n t) (p n leaf)

    one_entry : (IsLeaf b e.node → IsLeafQuery e.query) → IsAbsent e.query (kept_after kept prior e.node) → SparesOn touches b done (events_at b e.node e.query) (kept_after kept (prior ++ e ∷ []))
    unfolding name
    one_entry h absent = by_kind (is_container (sight_at b e.node).label.kind) refl
      where
        by_kind : (c : Bool) → is_container (sight_at b e.node).label.kind ≡ c → SparesOn touches b done (events_at b e.node e.query) (kept_after kept (prior ++ e ∷ []))
        by_kind true is =
            let none : events_at b e.node e.query ≡ [] = by_container (sight_at b e.node).label.kind (sight_at b e.node).label.name e.query is in
            subst (λ (l : List Event). SparesOn touches b done l (kept_after kept (prior ++ e ∷ []))) (sym none)
            (record { spared = tt; recalls = subst (λ (l : List Event). Recalls touches b l (kept_after kept (prior ++ e ∷ []))) (sym (append-nil done)) (one_container is) })
        by_kind false is =
            let events : events_at b e.node e.query ≡ marks (sight_at b e.node).label.name (spread (width_by e.query.ask e.query)) = by_leaf (sight_at b e.node).label.kind (sight_at b e.node).label.name e.query is ∙ leaf_marks (sight_at b e.node).label.name e.query (h is) in
            subst (λ (l : List Event). SparesOn touches b done l (kept_after kept (prior ++ e ∷ []))) (sym events) (one_leaf is (h is) absent)

  -- ---- one entry after another

  pub all_entries : (prior todo : List Entry) (done : List Event) → Recalls touches b done (kept_after kept prior) → AreFresh kept prior todo → AreAskedOfLeaves b todo → SparesOn touches b done (events_of b todo) (kept_after kept (prior ++ todo))
  all_entries prior [] done p fresh asked =
      record {
        spared = tt;
        recalls = subst (λ (l : List Event). Recalls touches b l (kept_after kept (prior ++ []))) (sym (append-nil done)) (subst (λ (l : List Entry). Recalls touches b done (kept_after kept l)) (sym (append-nil prior)) p);
      }
  all_entries prior (e ∷ todo) done p fresh asked =
      let first = one_entry prior e done p asked.0 fresh.0 in
      let later = all_entries (prior ++ e ∷ []) todo (done ++ events_at b e.node e.query) first.recalls fresh.1 asked.1 in
      record {
        spared = spared_more touches done (events_at b e.node e.query) (events_of b todo) first.spared later.spared;
        recalls =
            subst (λ (l : List Event). Recalls touches b l (kept_after kept (prior ++ e ∷ todo))) (append_assoc done (events_at b e.node e.query) (events_of b todo))
            (subst (λ (l : List Entry). Recalls touches b ((done ++ events_at b e.node e.query) ++ events_of b todo) (kept_after kept l)) (append_assoc prior (e ∷ []) todo) later.recalls);
      }

  -- what a leaf recalls it keeps in full
  few_kept : (done : List Event) (n : NodeId) → Recalls touches b done kept → IsLeaf b n → length (kept n) ≤ most_kept
  few_kept done n p leaf = omega (arith, length_map width_of (kept n), (p n leaf).widths.few)

  -- all that is kept anew
  pub kept_anew : (now : NodeId → List (Query × Answer)) (added : List Entry) (done : List Event) → Recalls touches b done kept → ((n : NodeId) → now n ≡ kept_after kept added n) → AreFresh kept [] added → AreAskedOfLeaves b added
      → SparesOn touches b done (events_of b added) now
  kept_anew now added done p is fresh asked =
      let start : Recalls touches b done (kept_after kept []) = λ n leaf. recalls_kept touches _ _ _ _ (kept_none (kept n) (few_kept done n p leaf)) (p n leaf) in
      let found = all_entries [] added done start fresh asked in
      record { spared = found.spared; recalls = λ n leaf. recalls_kept touches _ _ _ _ (is n) (found.recalls n leaf) }

-- what was begun of a question of which no answer is kept
pub cut_spared : (touches : Touches) (b : BareTrees) (named : AreNamed b) (kept : NodeId → List (Query × Answer)) (done rest left : List Event) (n : NodeId) (q : Query) → Recalls touches b done kept → (IsLeaf b n → IsLeafQuery q) → IsAbsent q (kept n)
    → rest ++ left ≡ events_at b n q → AreSpared touches done rest
cut_spared touches b named kept done rest left n q p h absent e = spared_front touches done rest left (subst (AreSpared touches done) (sym e) (by_kind (is_container (sight_at b n).label.kind) refl))
  where
    one : List Entry
    one = record { node = n; query = q; answer = Block (pos 0) } ∷ []

    by_kind : (c : Bool) → is_container (sight_at b n).label.kind ≡ c → AreSpared touches done (events_at b n q)
    by_kind true is = subst (AreSpared touches done) (sym (by_container (sight_at b n).label.kind (sight_at b n).label.name q is)) tt
    by_kind false is =
        let new : IsAbsent q (kept_after kept [] n) = subst (IsAbsent q) (sym (kept_none (kept n) (few_kept touches b named kept done n p is))) absent in
        subst (AreSpared touches done) (append-nil (events_at b n q)) (kept_anew touches b named kept (kept_after kept one) one done p (λ m. refl) (new, tt) (h, tt)).spared
