use Rattle.std.proofs.Common.{◌≡◌, ◌*◌, ◌<◌, ◌^◌}
use Rattle.cat_script.specs.Generators.{number_after, generated_calls}
use Rattle.cat_script.proofs.generator.generated.Given as goal

-- two draws for each call so far
abbrev pub invariant-loop-index : goal.invariant-loop-index
invariant-loop-index l = record {
  number : l.number ≡ number_after l.seed (2 * l.index);
  small : l.number < 2 ^ 31;
  ops : l.ops.items ≡ generated_calls l.seed l.index l.callers;
}
