-- The slots once a new node was put under a parent.
use Rattle.std.proofs.Common.{◌≡◌, ◌≢◌, ℕ, ◌+◌, ◌≤◌, ◌<◌, true, false, List, [], insert, Option, Some, None, length, refl, sym, ap, ◌∙◌, arith, inl, inr, slice_index_or, Bool, Ok, subst}
use Rattle.std.specs.Prelude.{◌==◌, ◌⊎◌, ◌||◌, IfSome, if◌then◌else◌, not, nat_lt, nat_le}
use Rattle.std.proofs.lemmas.Bool.{cases_eq, eq-eqb, ne_eqb, or_parts, ltb-false, leb-false}
use Rattle.slab.specs.Slab.{Slab, get, slab_len, Updates}
use Rattle.plain_tree.specs.Trees.{Trees, leafless, tree, size_of, count_of}
use Rattle.node_arena.specs.declared.number.NodeId.{NodeId}
use Rattle.node_arena.specs.declared.slots.Slot.{Slot}
use Rattle.node_arena.specs.declared.error.ArenaError.TheVariants.{Stale, BadIndex, TooDeep, Full}
use Rattle.node_arena.specs.Numbers.{part_at, below_of, times, way_up, count_at}
use Rattle.node_arena.specs.Edits.{graft, grafted}
use Rattle.node_arena.specs.Faults.{Answers, insert_fault}
use Rattle.node_arena.specs.Plain.{Nodes, is_live}
use Rattle.node_arena.specs.Inside.{look, shown, held, Holds, in_slot, used, Fits, whole, listed, Reshows, HasRoom}
use Rattle.node_arena.proofs.Same.{one_yes, one_no, part_none}
use Rattle.node_arena.proofs.Parts.{each_weaker}
use Rattle.node_arena.proofs.Standing.{times_within}
use Rattle.node_arena.proofs.Edited.{graft_in_slot, graft_size, graft_low, graft_narrow, tops_grafted, each_edited, each_put}
use Rattle.node_arena.proofs.Linked.{holds_grafted}
use Rattle.node_arena.proofs.Reading.{Live, live, is_whole, few_in_slot, live_count, live_held}

-- ---- what an Ok of the tests says
pub record MayInsert {T : Type 0} (n : Nodes T) (parent : NodeId) (index : ℕ) : Type 0 where
  pub live : is_live n parent ≡ true
  pub place : index ≤ count_at n.tree parent
  pub level : length (way_up n.tree parent) < 64
  pub few : size_of n.tree < n.most_nodes
  pub narrow : count_at n.tree parent < n.most_children

record None_of (a b c d : Bool) : Type 0 where
  pub first : a ≡ true
  pub second : b ≡ false
  pub third : c ≡ false
  pub fourth : d ≡ false

tests : (a b c d : Bool) → Answers (if not a then Some Stale else if b then Some BadIndex else if c then Some TooDeep else if d then Some Full else None) (Ok (tt {0})) → None_of a b c d
tests false b c d h = absurd cc
tests true true c d h = absurd cc
tests true false true d h = absurd cc
tests true false false true h = absurd cc
tests true false false false h = record { first = refl; second = refl; third = refl; fourth = refl }

pub may_insert : {T : Type 0} (n : Nodes T) (parent : NodeId) (index : ℕ) → Answers (insert_fault n parent index) (Ok (tt {0})) → MayInsert n parent index
may_insert n parent index h =
    let all = tests (is_live n parent) (nat_lt (count_at n.tree parent) index) (nat_le 64 (length (way_up n.tree parent))) (nat_le n.most_nodes (size_of n.tree) || nat_le n.most_children (count_at n.tree parent)) h in
    let full = or_parts (nat_le n.most_nodes (size_of n.tree)) (nat_le n.most_children (count_at n.tree parent)) all.fourth in
    record {
      live = all.first;
      place = ltb-false _ _ all.second;
      level = leb-false _ _ all.third;
      few = leb-false _ _ full.0;
      narrow = leb-false _ _ full.1;
    }

pub may_insert_in : {T : Type 0} (n now : Nodes T) (parent : NodeId) (index : ℕ) → n ≡ now → Answers (insert_fault now parent index) (Ok (tt {0})) → MayInsert n parent index
may_insert_in n now parent index e h = subst (λ m. MayInsert m parent index) (sym e) (may_insert now parent index h)

module _ {T : Type 0} (old added : Slab (Slot T)) (root : NodeId) (made nodes kids : ℕ) (t : Trees (NodeId × T)) (fits : Fits old.slots root made nodes kids t)
    (parent : NodeId) (index : ℕ) (may : MayInsert (record { tree = t; made = made; most_nodes = nodes; most_children = kids }) parent index)
    (key : ℕ) (new : Slot T) (vacant : get old key ≡ None) (up : Updates old added key (Some new)) where
  has : (s : Slot T) × (held old.slots parent ≡ Some s)
  has = live_held old.slots root made nodes kids t fits parent may.live

  mine : Live old.slots root made nodes kids t fits parent has.0
  mine = live old.slots root made nodes kids t fits parent has.0 has.1

  apart : parent.slot ≢ key
  apart e = let none : Some has.0 ≡ None = sym mine.here ∙ ap (λ k. slice_index_or old.slots k None) e ∙ vacant in absurd cc

  pub parent_kept : slice_index_or added.slots parent.slot None ≡ slice_index_or old.slots parent.slot None
  parent_kept = up.others parent.slot apart

  pub room_kept : HasRoom (slice_index_or old.slots parent.slot None) → HasRoom (slice_index_or added.slots parent.slot None)
  room_kept h = subst HasRoom (sym parent_kept) h

  parent_shows : shown added.slots parent.slot ≡ Some (record { turn = has.0.turn; value = has.0.value; parent = has.0.parent; children = has.0.children.items })
  parent_shows = ap look (parent_kept ∙ mine.here)

  in_range : index ≤ length has.0.children.items
  in_range = omega (arith, may.place, live_count old.slots root made nodes kids t fits parent has.0 has.1)

  pub place_kept : IfSome (shown added.slots parent.slot) (λ s. index ≤ length s.children)
  place_kept = subst (λ o. IfSome o (λ s. index ≤ length s.children)) (sym parent_shows) in_range

  no_key : in_slot key t ≡ 0
  no_key = fits.filled key ∙ ap (λ o. used (look o)) vacant

  abbrev pub id : NodeId
  id = record { slot = key; turn = made }

  pub fresh : part_at t id ≡ None
  fresh = part_none t id (omega (arith, times_within t id, no_key))

  module _ (last : List (Option (Slot T))) (r : Reshows added.slots last parent.slot (listed index id (shown added.slots parent.slot))) (len : slab_len added ≡ slab_len old + 1) (nt : new.turn ≡ made) (np : new.parent ≡ Some parent) (nc : new.children.items ≡ []) where
    abbrev pub leaf : Trees (NodeId × T)
    leaf = tree (id, new.value) leafless leafless

    here : shown last parent.slot ≡ Some (record { turn = has.0.turn; value = has.0.value; parent = has.0.parent; children = insert has.0.children.items index id })
    here = r.changed ∙ ap (listed index id) parent_shows

    leaf_here : shown last key ≡ Some (record { turn = made; value = new.value; parent = Some parent; children = [] })
    leaf_here = r.others key (λ e. apart (sym e)) ∙ ap look up.changed ∙ (λ i. Some (record { turn = nt i; value = new.value; parent = np i; children = nc i }))

    far : (j : ℕ) → j ≢ parent.slot → j ≢ key → shown last j ≡ shown old.slots j
    far j ne nk = r.others j ne ∙ ap look (up.others j nk)

    once : times parent t ≤ 1
    once = omega (arith, mine.there)

    holds : Holds (shown last) None (grafted parent index leaf t)
    holds =
        holds_grafted (shown old.slots) (shown last) parent id (record { turn = has.0.turn; value = has.0.value; parent = has.0.parent; children = has.0.children.items }) index leaf (ap look mine.here) mine.found.turn in_range refl here (leaf_here, (tt, tt))
        None t (few_in_slot old.slots root made nodes kids t fits)
        (λ j ne m. far j ne (λ k. absurd (omega (arith, no_key, ap (λ z. in_slot z t) k)))) fits.holds

    filled : (k : ℕ) → (k ≡ key) ⊎ (k ≢ key) → (k ≡ parent.slot) ⊎ (k ≢ parent.slot) → in_slot k (grafted parent index leaf t) ≡ used (shown last k)
    filled k (inl e) q =
        let its : used (shown last k) ≡ 1 = ap (λ z. used (shown last z)) e ∙ ap used leaf_here in
        omega (arith, graft_in_slot parent index leaf t _ once mine.found.part k, one_yes (key == k) (eq-eqb key k (sym e)), ap (λ z. in_slot z t) e, no_key)
    filled k (inr ne) (inl e) =
        let its : used (shown last k) ≡ 1 = ap (λ z. used (shown last z)) e ∙ ap used here in
        let was : used (shown old.slots k) ≡ 1 = ap (λ z. used (shown old.slots z)) e ∙ ap (λ o. used (look o)) mine.here in
        omega (arith, graft_in_slot parent index leaf t _ once mine.found.part k, one_no (key == k) (ne_eqb key k (λ z. ne (sym z))), fits.filled k)
    filled k (inr ne) (inr nq) =
        let its : used (shown last k) ≡ used (shown old.slots k) = ap used (far k nq ne) in
        omega (arith, graft_in_slot parent index leaf t _ once mine.found.part k, one_no (key == k) (ne_eqb key k (λ z. ne (sym z))), fits.filled k)

    below_count : count_at t parent ≡ count_of mine.found.below
    below_count = ap (λ o. count_of (below_of o)) mine.found.part

    pub fits_inserted : Fits last root (made + 1) nodes kids (grafted parent index leaf t)
    fits_inserted =
        record {
          holds = holds;
          rooted = tops_grafted parent index leaf t ∙ fits.rooted;
          filled = λ k. filled k (cases_eq k key) (cases_eq k parent.slot);
          counted = omega (arith, r.counted, len, fits.counted, graft_size parent index leaf t _ once mine.found.part);
          low = graft_low parent index leaf t _ once mine.found.part 64 fits.low (omega (arith, may.level));
          turns = each_edited (λ x. x.0.turn < made + 1) parent (graft index leaf) t
              (λ x below a b. (a, (each_put (λ x. x.0.turn < made + 1) index leaf below (omega arith, (tt, tt)) b, tt)))
              (each_weaker _ _ t (λ x h. omega (arith, h)) fits.turns);
          few = omega (arith, may.few, graft_size parent index leaf t _ once mine.found.part);
          narrow = graft_narrow parent index leaf t _ once mine.found.part kids fits.narrow (omega arith, (tt, tt)) (omega (arith, may.narrow, below_count));
        }

    pub whole_inserted : whole last root ≡ grafted parent index leaf t
    whole_inserted = is_whole last root (made + 1) nodes kids (grafted parent index leaf t) fits_inserted

    pub whole_fits_inserted : Fits last root (made + 1) nodes kids (whole last root)
    whole_fits_inserted = rw whole_inserted fits_inserted
