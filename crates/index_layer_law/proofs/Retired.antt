-- What is retired, where the log lines stay.
use Rattle.std.proofs.Common.{◌≡◌, true, Option, Some, None, sym, ap, ◌∙◌}
use Rattle.std.specs.Prelude.{IfSome}
use Rattle.pm_words.specs.Codes.{ready_state}
use Rattle.call_stages.specs.Stages.{Grip}
use Rattle.call_stages.specs.Lines.{HeldLine}
use Rattle.updater_law.specs.Covers.{Lines}
use Rattle.updater_law.specs.Facts.{TurnFacts}
use Rattle.index_layer_law.specs.Turnings.{line_number}
use Rattle.index_layer_law.specs.Layers.{SaysMerge, IsRetiring}

-- what is retired reads the lines alone
pub retiring_lines : (f f' : TurnFacts) (line : Option HeldLine) (right : Grip) → f'.line ≡ f.line → IsRetiring f line right → IsRetiring f' line right
retiring_lines f f' line right same is = record {
  alone = λ j ready says. is.alone j (ap (λ (n : Lines). n.state j) (sym same) ∙ ready) (ap (λ (n : Lines). n.kind j) (sym same) ∙ says.0, ap (λ (n : Lines). n.node j) (sym same) ∙ says.1);
  waits = still line is.waits;
}
  where
    still : (line : Option HeldLine) → IfSome line (λ e. e.ready ≡ true → SaysMerge f (line_number e) right.node → f.line.state (line_number e) ≡ ready_state) → IfSome line (λ e. e.ready ≡ true → SaysMerge f' (line_number e) right.node → f'.line.state (line_number e) ≡ ready_state)
    still None waits = tt
    still (Some e) waits = λ ready says. ap (λ (n : Lines). n.state (line_number e)) same ∙ waits ready (ap (λ (n : Lines). n.kind (line_number e)) (sym same) ∙ says.0, ap (λ (n : Lines). n.node (line_number e)) (sym same) ∙ says.1)
