use Rattle.image_recovery_law.proofs.Plans.{planned_bits_serve, planned_none_serves, plan_reaches, plan_ends}
use Rattle.image_recovery_law.proofs.laws.plan_law.Goals as goal

pub returns : goal.returns
returns c = record { bits = planned_bits_serve; none = planned_none_serves; reaches = plan_reaches; ends = plan_ends }
