-- The question for its frames fits a root that is given sizes of at least 0.
use Rattle.std.proofs.Common.{◌≡◌, sym, ap, subst, ℕ, ◌&&◌, Bool, true, false, [], List, length}
use Rattle.tree_rules.specs.Chains.{Link, has_chain, is_subgrid}
use Rattle.tree_rules.specs.Places.{Seen}
use Rattle.tree_rules.specs.Queries.{Fits, IsGivenFor, is_container, outer_context, sees_columns, sees_rows}
use Rattle.tree_rules.specs.declared.query.Given.{Given}
use Rattle.tree_rules.specs.declared.query.Given.TheVariants as given
use Rattle.box_layout.specs.Asking.{frames_asked}

-- a size fits whatever the tracks are
any_tracks : (n : ℕ) (g : Given) → IsGivenFor true false 0 g → IsGivenFor true false n g
any_tracks n (given.Size x) h = h
any_tracks n (given.Tracks edges gap) h = absurd h
any_tracks n given.None h = absurd h

pub frames_fit_alone : (s : Seen) → s.chain ≡ [] → is_container s.label.kind ≡ true → (inline block : Given) → IsGivenFor true false 0 inline → IsGivenFor true false 0 block → Fits s (frames_asked [] inline block)
frames_fit_alone s alone container inline block across down =
    let no_columns : sees_columns s ≡ false = ap (λ (l : List Link). has_chain l && is_subgrid s.label.grid.columns.template) alone in
    let no_rows : sees_rows s ≡ false = ap (λ (l : List Link). has_chain l && is_subgrid s.label.grid.rows.template) alone in
    record {
      ask = container;
      reps = sym (ap length alone);
      inline = subst (λ (t : Bool). IsGivenFor true t (outer_context s []).columns.table.tracks inline) (sym no_columns) (any_tracks (outer_context s []).columns.table.tracks inline across);
      block = subst (λ (t : Bool). IsGivenFor true t (outer_context s []).rows.table.tracks block) (sym no_rows) (any_tracks (outer_context s []).rows.table.tracks block down);
    }
