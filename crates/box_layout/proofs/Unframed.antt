-- No question for sizes leads to one for frames, so a node keeps no new frames by it.
use Rattle.std.proofs.Common.{◌≡◌, ◌≢◌, refl, sym, ap, ◌∙◌, subst, ℕ, zero, suc, ◌-◌, Bool, true, false, List, [], ◌∷◌, ◌++◌, map, drop, length, None, if◌then◌else◌}
use Rattle.std.specs.Prelude.{Contains}
use Rattle.std.proofs.lemmas.Bool.{false≢true}
use Rattle.std.proofs.lemmas.List.Elements.{All-contains}
use Rattle.layout_cache.specs.Kept.{answer_to}
use Rattle.layout_cache.proofs.Sames.{absent_from, absent_to}
use Rattle.node_arena.specs.declared.number.NodeId.{NodeId}
use Rattle.node_arena.specs.Numbers.{same}
use Rattle.node_arena.proofs.Same.{same_is}
use Rattle.outside.specs.declared.event.Event.{Event}
use Rattle.placing.specs.Nodes.{BareTrees, kids_at, sight_at, uses_at}
use Rattle.placing.specs.Walks.{AreAsked, Asks, Entry, State, Walk, Walked, bare_in, entries_of, itself, kept_in, through}
use Rattle.placing.specs.declared.node.Answer.{Answer}
use Rattle.placing.proofs.Each.{Each, all_each, each_map}
use Rattle.tree_rules.specs.Answers.{Kid}
use Rattle.tree_rules.specs.AskedQueries.{ToChild, asks_frames, flex_asks_block, flex_asks_inline, frame_width, grid_asks_block, grid_asks_inline, settled_in, uses_by}
use Rattle.tree_rules.specs.Chains.{Link}
use Rattle.tree_rules.specs.FlexSizes.{Member, Settled, flex_by}
use Rattle.tree_rules.specs.Frames.{given_size}
use Rattle.tree_rules.specs.GridSizes.{Entry as GridEntry, Grid, Wide, grid_by, shares_columns, shares_rows, view_by, wide_children}
use Rattle.tree_rules.specs.KeptAnswers.{IsAbsent, most_kept}
use Rattle.tree_rules.specs.Labels.{Label}
use Rattle.tree_rules.specs.Orders.{numbered_from}
use Rattle.tree_rules.specs.Queries.{needs_inline}
use Rattle.tree_rules.specs.Whole.{step}
use Rattle.tree_rules.specs.declared.kind.NodeKind.{NodeKind}
use Rattle.tree_rules.specs.declared.kind.NodeKind.TheVariants as kind
use Rattle.tree_rules.specs.declared.query.Ask.{Ask}
use Rattle.tree_rules.specs.declared.query.Ask.TheVariants as ask
use Rattle.tree_rules.specs.declared.query.Query.{Query}

-- ---- questions to children

-- it asks for frames
abbrev pub is_frames : Ask → Bool
is_frames ask.Inline = false
is_frames ask.LendColumns = false
is_frames ask.Block = false
is_frames ask.LendRows = false
is_frames ask.Frames = true

abbrev IsSize : ToChild → Type 0
IsSize t = is_frames t.1.ask ≡ false

each_all : {A : Type 0} (P : A → Type 0) → ((x : A) → P x) → (xs : List A) → Each P xs
each_all P h [] = tt
each_all P h (x ∷ rest) = (h x, each_all P h rest)

each_append : {A : Type 0} (P : A → Type 0) (xs ys : List A) → Each P xs → Each P ys → Each P (xs ++ ys)
each_append P [] ys h k = k
each_append P (x ∷ xs) ys h k = (h.0, each_append P xs ys h.1 k)

each_if : {A : Type 0} (P : A → Type 0) (t : Bool) (xs : List A) → Each P xs → Each P (if t then xs else [])
each_if P true xs h = h
each_if P false xs h = tt

inline_sized : (t : Bool) → is_frames (if t then ask.LendColumns else ask.Inline) ≡ false
inline_sized true = refl
inline_sized false = refl

block_sized : (t : Bool) → is_frames (if t then ask.LendRows else ask.Block) ≡ false
block_sized true = refl
block_sized false = refl

uses_sized : (k : NodeKind) (x : Label) (chain : List Link) (kids : List Kid) (q : Query) → Each IsSize (uses_by k x chain kids q)
uses_sized kind.Grid x chain kids q =
    let g : Grid = grid_by x chain kids q.reps q.inline in
    let wides : List Wide = wide_children g (view_by g.columns q.inline) in
    each_append IsSize (map (grid_asks_inline g) g.entries) (if needs_inline q.ask then map (grid_asks_block g) wides else [])
    (each_map (grid_asks_inline g) IsSize g.entries (each_all (λ (e : GridEntry). IsSize (grid_asks_inline g e)) (λ e. inline_sized (shares_columns e.kid)) g.entries))
    (each_if IsSize (needs_inline q.ask) (map (grid_asks_block g) wides) (each_map (grid_asks_block g) IsSize wides (each_all (λ (w : Wide). IsSize (grid_asks_block g w)) (λ w. block_sized (shares_rows w.entry.kid)) wides)))
uses_sized kind.Flex x chain kids q =
    let f = flex_by x kids in
    let settled : List Settled = settled_in f (given_size q.inline) in
    let frames = numbered_from 0 (((step x chain kids).down q.reps q.inline).frames q.block) in
    let inlines : List ToChild = map flex_asks_inline f.members in
    let blocks : List ToChild = if needs_inline q.ask then map flex_asks_block settled else [] in
    each_append IsSize (inlines ++ blocks) (if asks_frames f q.ask then map frame_width frames else [])
    (each_append IsSize inlines blocks (each_map flex_asks_inline IsSize f.members (each_all (λ (m : Member). IsSize (flex_asks_inline m)) (λ m. refl) f.members))
    (each_if IsSize (needs_inline q.ask) (map flex_asks_block settled) (each_map flex_asks_block IsSize settled (each_all (λ (s : Settled). IsSize (flex_asks_block s)) (λ s. refl) settled))))
    (each_if IsSize (asks_frames f q.ask) (map frame_width frames) (each_map frame_width IsSize frames (each_all (λ e. IsSize (frame_width e)) (λ e. refl) frames)))
uses_sized (kind.Leaf content) x chain kids q = tt

used_sized : (b : BareTrees) (n : NodeId) (q : Query) (t : ToChild) → Contains (uses_at b n q) t → IsSize t
used_sized b n q t h = All-contains IsSize (uses_at b n q) t (all_each IsSize (uses_at b n q) (uses_sized (sight_at b n).label.kind (sight_at b n).label (sight_at b n).chain (kids_at b n) q)) h

-- ---- what a question leads to

asks_sized : (b : BareTrees) (n m : NodeId) (q s : Query) → Asks b n q m s → is_frames q.ask ≡ false → is_frames s.ask ≡ false
asks_sized b _ _ _ _ (itself n q) h = h
asks_sized b _ _ _ _ (through n c m q r s i is uses rest) h = asks_sized b c m r s rest (used_sized b n q (i, r) uses)

asks_lower : (b : BareTrees) (n m : NodeId) (q s : Query) → Asks b n q m s → m ≢ n → is_frames s.ask ≡ false
asks_lower b _ _ _ _ (itself n q) ne = absurd (ne refl)
asks_lower b _ _ _ _ (through n c m q r s i is uses rest) ne = asks_sized b c m r s rest (used_sized b n q (i, r) uses)

-- ---- what is kept

absent_append : (r : Query) (xs ys : List (Query × Answer)) → IsAbsent r xs → IsAbsent r ys → IsAbsent r (xs ++ ys)
absent_append r [] ys h k = k
absent_append r (x ∷ xs) ys h k = (h.0, absent_append r xs ys h.1 k)

absent_drop : (r : Query) (n : ℕ) (xs : List (Query × Answer)) → IsAbsent r xs → IsAbsent r (drop n xs)
absent_drop r zero xs h = h
absent_drop r (suc n) [] h = h
absent_drop r (suc n) (x ∷ xs) h = absent_drop r n xs h.1

module _ (May : NodeId → Query → Type 0) (m : NodeId) (r : Query) (other : (p : Query) → May m p → p ≢ r) where
  absent_entries : (added : List Entry) → AreAsked May added → IsAbsent r (entries_of m added)
  absent_entries [] h = tt
  absent_entries (e ∷ rest) h = at (same e.node m) refl (absent_entries rest h.1)
    where
      at : (t : Bool) → same e.node m ≡ t → IsAbsent r (entries_of m rest) → IsAbsent r ((if t then (e.query, e.answer) ∷ [] else []) ++ entries_of m rest)
      at true s k = (other e.query (subst (λ (z : NodeId). May z e.query) (same_is e.node m s) h.0), k)
      at false s k = k

  still_absent : (more : ℕ) (rest : List Event) (s t : State) → Walk May more rest s t → answer_to r (kept_in s m) ≡ None → answer_to r (kept_in t m) ≡ None
  still_absent more rest s t w none =
      let all : List (Query × Answer) = kept_in s m ++ entries_of m w.added in
      absent_to r (kept_in t m)
      (subst (IsAbsent r) (sym (w.kept m))
      (absent_drop r (length all - most_kept) all (absent_append r (kept_in s m) (entries_of m w.added) (absent_from r (kept_in s m) (sym none)) (absent_entries w.added w.asked))))

not_frames : (p r : Query) → is_frames p.ask ≡ false → r.ask ≡ ask.Frames → p ≢ r
not_frames p r h k e = absurd (false≢true (sym h ∙ ap (λ (z : Query). is_frames z.ask) e ∙ ap is_frames k))

-- a question for sizes puts no frames
pub sizes_only : (n : NodeId) (q : Query) (s t : State) → Walked n q s t → is_frames q.ask ≡ false → (m : NodeId) (r : Query) → r.ask ≡ ask.Frames → answer_to r (kept_in s m) ≡ None → answer_to r (kept_in t m) ≡ None
sizes_only n q s t w size m r frames none = still_absent (Asks (bare_in s) n q) m r (λ p may. not_frames p r (asks_sized (bare_in s) n m q p may size) frames) 0 [] s t w.walk none

-- nor does one for frames, but to its own node
pub sizes_below : (n : NodeId) (q : Query) (s t : State) → Walked n q s t → (m : NodeId) (r : Query) → m ≢ n → r.ask ≡ ask.Frames → answer_to r (kept_in s m) ≡ None → answer_to r (kept_in t m) ≡ None
sizes_below n q s t w m r ne frames none = still_absent (Asks (bare_in s) n q) m r (λ p may. not_frames p r (asks_lower (bare_in s) n m q p may ne) frames) 0 [] s t w.walk none
