use Rattle.std.proofs.Common.{Option, sym, subst, ◌≡◌}
use Rattle.data_list.specs.declared.target.Next.{Next}
use Rattle.data_list.specs.Walks.{high_of}
use Rattle.node_ops.proofs.part.Reading.high.Goals as goal

pub returns : goal.returns
returns c = subst (λ (behind : Option Next). c.name.result ≡ high_of behind) (sym c.in-Some.is) c.name.ensures
