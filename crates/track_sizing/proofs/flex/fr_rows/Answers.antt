use Rattle.std.proofs.Common.{arith, ap, subst, ◌≡◌, ◌∙◌, sym, ℕ, suc, ◌+◌, List, [], ◌∷◌, ◌++◌, map, take}
use Rattle.fr_tracks.specs.Settled.{HaveBases}
use Rattle.part_rules.specs.declared.fraction.FrRow.{FrRow}
use Rattle.part_rules.specs.Tracks.{fr_row}
use Rattle.track_sizing.proofs.Best.{bases_more, map_more}
use Rattle.track_sizing.proofs.flex.fr_rows.Goals as goal

pub loop-row-preserved : goal.loop-row-preserved
loop-row-preserved c =
    let next : suc c.loop-row.row-index ≡ c.loop-row.row-index + 1 = omega arith in
    record {
      same =
          c.in_ok-push.ensures.items
          ∙ ap (λ (xs : List FrRow). xs ++ c.fr_row.result ∷ []) c.loop-row.invariant.same
          ∙ ap (λ (r : FrRow). map fr_row (take c.loop-row.row-index c.args.rows.now) ++ r ∷ []) c.fr_row.ensures.value
          ∙ sym (map_more fr_row c.args.rows.now c.loop-row.row-index c.row-item.result (omega arith) c.row-item.is)
          ∙ ap (λ (n : ℕ). map fr_row (take n c.args.rows.now)) next;
      bases = subst HaveBases (sym c.in_ok-push.ensures.items) (bases_more c.loop-row.all.items c.fr_row.result c.loop-row.invariant.bases c.fr_row.ensures.base);
    }
