use Rattle.std.proofs.Common.{ap, sym, ◌∙◌, refl, arith, ℕ, Bool, false, Some}
use Rattle.session.specs.Made.{HasMade}
use Rattle.session.specs.Replies.{KeepsBounds}
use Rattle.session.specs.Runs.{HasRun}
use Rattle.session.specs.Words.{asked, is_served}
use Rattle.session.proofs.Commands.{by_numbers, by_stats, layout_not_write, make_not_write, not_both, unserved_made, unserved_run, unserved_written}
use Rattle.session.proofs.Finished.{has_output}
use Rattle.session.proofs.Pieces.{asks_unread}
use Rattle.session.proofs.Spares.{spares_unread}
use Rattle.session.proofs.Replies.{unserved_replied}
use Rattle.session.proofs.top_call.run.Goals as goal

-- ---- under `layout`

pub returns-clause-run : goal.returns-clause-run
returns-clause-run g c = unserved_run (g.S.Source.left c.args.source.now) (g.K.Sink.written c.args.sink.now) (g.R.Ruler.log c.args.ruler.now) (g.S.Source.faults c.args.source.now) (g.K.Sink.faults c.args.sink.now) (asked c.args.words.items) c.in-Err.status c.in-Err.ensures.stops
    (λ e. ap (λ ws. is_served (asked ws)) (sym c.as_slice.ensures.value) ∙ c.in-Err.ensures.bad e)

pub returns-in-Ok-Write-clause-run : goal.returns-in-Ok-Write-clause-run
returns-in-Ok-Write-clause-run g c = λ stats e. layout_not_write (asked c.args.words.items) stats e (ap asked (sym c.as_slice.ensures.value) ∙ c.in-Ok-Write.ensures.command ∙ ap (λ command. Some command) c.in-Ok-Write.field-0-is)

pub returns-in-Ok-Layout-clause-output : goal.returns-in-Ok-Layout-clause-output
returns-in-Ok-Layout-clause-output g c =
    λ e. has_output
    (by_stats (asked c.args.words.items) c.in-Ok-Layout.stats
    (λ (stats : Bool). HasRun stats (g.S.Source.left c.args.source.now) (g.S.Source.left c.run_layout.new.source) (g.K.Sink.written c.args.sink.now) (g.K.Sink.written c.run_layout.new.sink) (g.R.Ruler.log c.args.ruler.now) (g.R.Ruler.log c.run_layout.new.ruler)
    (g.S.Source.faults c.args.source.now) (g.S.Source.faults c.run_layout.new.source) (g.K.Sink.faults c.args.sink.now) (g.K.Sink.faults c.run_layout.new.sink) c.run_layout.result)
    (ap asked (sym c.as_slice.ensures.value) ∙ c.in-Ok-Layout.ensures.command ∙ ap (λ command. Some command) c.in-Ok-Layout.field-0-is) c.run_layout.ensures.run false e)

pub returns-in-Ok-Make-clause-output : goal.returns-in-Ok-Make-clause-output
returns-in-Ok-Make-clause-output g c = λ e. not_both (asked c.args.words.items) false c.in-Ok-Make.seed c.in-Ok-Make.nodes e (ap asked (sym c.as_slice.ensures.value) ∙ c.in-Ok-Make.ensures.command ∙ ap (λ command. Some command) c.in-Ok-Make.field-0-is)

pub returns-in-Ok-Write-clause-output : goal.returns-in-Ok-Write-clause-output
returns-in-Ok-Write-clause-output g c = λ e. layout_not_write (asked c.args.words.items) false e (ap asked (sym c.as_slice.ensures.value) ∙ c.in-Ok-Write.ensures.command ∙ ap (λ command. Some command) c.in-Ok-Write.field-0-is)

pub returns-clause-output : goal.returns-clause-output
returns-clause-output g c = λ e. has_output (returns-clause-run g c false e)

pub returns-in-Ok-Layout-clause-bounds : goal.returns-in-Ok-Layout-clause-bounds
returns-in-Ok-Layout-clause-bounds g c = λ stats e.
    by_stats (asked c.args.words.items) c.in-Ok-Layout.stats
    (λ (stats : Bool). KeepsBounds stats (g.S.Source.left c.args.source.now) (g.K.Sink.written c.args.sink.now) (g.K.Sink.written c.run_layout.new.sink) (g.R.Ruler.log c.args.ruler.now) (g.R.Ruler.log c.run_layout.new.ruler) c.args.passes.now c.run_layout.new.passes c.run_layout.result)
    (ap asked (sym c.as_slice.ensures.value) ∙ c.in-Ok-Layout.ensures.command ∙ ap (λ command. Some command) c.in-Ok-Layout.field-0-is) c.run_layout.ensures.bounds stats e

pub returns-in-Ok-Make-clause-bounds : goal.returns-in-Ok-Make-clause-bounds
returns-in-Ok-Make-clause-bounds g c = λ stats e. not_both (asked c.args.words.items) stats c.in-Ok-Make.seed c.in-Ok-Make.nodes e (ap asked (sym c.as_slice.ensures.value) ∙ c.in-Ok-Make.ensures.command ∙ ap (λ command. Some command) c.in-Ok-Make.field-0-is)

pub returns-in-Ok-Write-clause-bounds : goal.returns-in-Ok-Write-clause-bounds
returns-in-Ok-Write-clause-bounds g c = λ stats e. layout_not_write (asked c.args.words.items) stats e (ap asked (sym c.as_slice.ensures.value) ∙ c.in-Ok-Write.ensures.command ∙ ap (λ command. Some command) c.in-Ok-Write.field-0-is)

pub returns-clause-bounds : goal.returns-clause-bounds
returns-clause-bounds g c = λ stats e. record {
  spares = spares_unread (g.S.Source.left c.args.source.now) (g.R.Ruler.log c.args.ruler.now);
  replies = unserved_replied stats (g.K.Sink.written c.args.sink.now) (g.R.Ruler.log c.args.ruler.now) c.args.passes.now (g.S.Source.left c.args.source.now) c.in-Err.status c.in-Err.ensures.stops;
}

-- ---- under `make`

pub returns-in-Ok-Layout-clause-made : goal.returns-in-Ok-Layout-clause-made
returns-in-Ok-Layout-clause-made g c = λ seed nodes e. not_both (asked c.args.words.items) c.in-Ok-Layout.stats seed nodes (ap asked (sym c.as_slice.ensures.value) ∙ c.in-Ok-Layout.ensures.command ∙ ap (λ command. Some command) c.in-Ok-Layout.field-0-is) e

pub returns-in-Ok-Make-clause-made : goal.returns-in-Ok-Make-clause-made
returns-in-Ok-Make-clause-made g c =
    λ seed nodes e. (
      refl,
      by_numbers (asked c.args.words.items) c.in-Ok-Make.seed c.in-Ok-Make.nodes
          (λ (seed nodes : ℕ). HasMade seed nodes (g.K.Sink.written c.args.sink.now) (g.K.Sink.written c.make.new.sink) (g.R.Ruler.log c.args.ruler.now) (g.R.Ruler.log c.make.new.ruler) c.args.passes.now c.make.new.passes (g.K.Sink.faults c.args.sink.now)
          (g.K.Sink.faults c.make.new.sink) c.make.result) (ap asked (sym c.as_slice.ensures.value) ∙ c.in-Ok-Make.ensures.command ∙ ap (λ command. Some command) c.in-Ok-Make.field-0-is) c.make.ensures.made seed nodes e,
    )

pub returns-in-Ok-Write-clause-made : goal.returns-in-Ok-Write-clause-made
returns-in-Ok-Write-clause-made g c = λ seed nodes e. make_not_write (asked c.args.words.items) seed nodes e (ap asked (sym c.as_slice.ensures.value) ∙ c.in-Ok-Write.ensures.command ∙ ap (λ command. Some command) c.in-Ok-Write.field-0-is)

pub returns-clause-made : goal.returns-clause-made
returns-clause-made g c =
    λ seed nodes e. (
      refl,
      unserved_made (g.K.Sink.written c.args.sink.now) (g.R.Ruler.log c.args.ruler.now) c.args.passes.now (g.K.Sink.faults c.args.sink.now) (asked c.args.words.items) c.in-Err.status c.in-Err.ensures.stops
          (λ b. ap (λ ws. is_served (asked ws)) (sym c.as_slice.ensures.value) ∙ c.in-Err.ensures.bad b) seed nodes e,
    )

-- ---- under `write`

pub returns-in-Ok-Layout-clause-written : goal.returns-in-Ok-Layout-clause-written
returns-in-Ok-Layout-clause-written g c = λ e. layout_not_write (asked c.args.words.items) c.in-Ok-Layout.stats (ap asked (sym c.as_slice.ensures.value) ∙ c.in-Ok-Layout.ensures.command ∙ ap (λ command. Some command) c.in-Ok-Layout.field-0-is) e

pub returns-in-Ok-Make-clause-written : goal.returns-in-Ok-Make-clause-written
returns-in-Ok-Make-clause-written g c = λ e. make_not_write (asked c.args.words.items) c.in-Ok-Make.seed c.in-Ok-Make.nodes (ap asked (sym c.as_slice.ensures.value) ∙ c.in-Ok-Make.ensures.command ∙ ap (λ command. Some command) c.in-Ok-Make.field-0-is) e

pub returns-in-Ok-Write-clause-written : goal.returns-in-Ok-Write-clause-written
returns-in-Ok-Write-clause-written g c = λ e. (c.run_write.ensures.written, (refl, refl))

pub returns-clause-written : goal.returns-clause-written
returns-clause-written g c =
    λ e. (
      unserved_written (g.S.Source.left c.args.source.now) (g.K.Sink.written c.args.sink.now) (g.S.Source.faults c.args.source.now) (g.K.Sink.faults c.args.sink.now) (asked c.args.words.items) c.in-Err.status c.in-Err.ensures.stops
          (λ b. ap (λ ws. is_served (asked ws)) (sym c.as_slice.ensures.value) ∙ c.in-Err.ensures.bad b) e,
      (refl, refl),
    )

-- ---- how often the source was asked

pub returns-in-Ok-Layout-clause-asked : goal.returns-in-Ok-Layout-clause-asked
returns-in-Ok-Layout-clause-asked g c = c.run_layout.ensures.asked

pub returns-in-Ok-Make-clause-asked : goal.returns-in-Ok-Make-clause-asked
returns-in-Ok-Make-clause-asked g c = asks_unread (g.S.Source.left c.args.source.now) (g.S.Source.asked c.args.source.now)

pub returns-in-Ok-Write-clause-asked : goal.returns-in-Ok-Write-clause-asked
returns-in-Ok-Write-clause-asked g c = c.run_write.ensures.asked

pub returns-clause-asked : goal.returns-clause-asked
returns-clause-asked g c = asks_unread (g.S.Source.left c.args.source.now) (g.S.Source.asked c.args.source.now)
