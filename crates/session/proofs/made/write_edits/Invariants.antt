use Rattle.std.proofs.Common.{◌≤◌, ◌<◌, ◌-◌, Option, List}
use Rattle.outside.specs.Told.{AddsAllBut}
use Rattle.outside.specs.declared.event.Event.{Event}
use Rattle.page_maker.specs.Standing.{IsMade}
use Rattle.sparing.specs.Sparing.{Touches}
use Rattle.session.specs.Made.{AgreeDraws, LogsAllBut, TellsAllBut, layouts_left, lines_left}
use Rattle.session.specs.Spares.{SparesPage}
use Rattle.session.specs.Standing.{doc_of}
use Rattle.session.proofs.made.write_edits.Given as goal

abbrev pub invariant-loop-k : goal.invariant-loop-k
invariant-loop-k g l = record {
  written : AddsAllBut (g.K.Sink.written l.fn.sink) (g.K.Sink.written l.sink) (lines_left (9 - l.k) l.nodes (doc_of l.engine) l.draws.state) (lines_left 8 l.nodes (doc_of l.fn.engine) l.fn.draws.state);
  log : LogsAllBut (g.R.Ruler.log l.fn.ruler) (g.R.Ruler.log l.ruler) 1 l.k (layouts_left (9 - l.k) l.nodes (doc_of l.engine) l.draws.state) (layouts_left 8 l.nodes (doc_of l.fn.engine) l.fn.draws.state);
  told : (touches : Touches) → AgreeDraws touches 8 1 l.nodes (doc_of l.fn.engine) l.fn.draws.state →
      TellsAllBut touches (g.R.Ruler.log l.fn.ruler) (g.R.Ruler.log l.ruler) l.fn.passes l.passes 1 l.k (layouts_left (9 - l.k) l.nodes (doc_of l.engine) l.draws.state) (layouts_left 8 l.nodes (doc_of l.fn.engine) l.fn.draws.state);
  agree : (touches : Touches) → AgreeDraws touches 8 1 l.nodes (doc_of l.fn.engine) l.fn.draws.state → AgreeDraws touches (9 - l.k) l.k l.nodes (doc_of l.engine) l.draws.state;
  spared : (touches : Touches) (before : Option (List Event)) → AgreeDraws touches 8 1 l.nodes (doc_of l.fn.engine) l.fn.draws.state → SparesPage touches before (g.R.Ruler.log l.fn.ruler) l.fn.engine.page → SparesPage touches before (g.R.Ruler.log l.ruler) l.engine.page;
  made : IsMade l.nodes (doc_of l.engine);
  faults : g.K.Sink.faults l.fn.sink ≤ g.K.Sink.faults l.sink;
  some : 0 < l.k;
}
