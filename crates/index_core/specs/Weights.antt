-- What the index weighs, and what calls add to that.
use Rattle.std.specs.Prelude.{ℕ, Option, Some, None}
use Rattle.pm_words.specs.Rows.{durable_row}
use Rattle.cat_history.specs.declared.op.NameOp.{NameOp}
use Rattle.cat_history.specs.declared.op.NameOp.TheVariants as op
use Rattle.image_rules.specs.Weights.{image_weight}
use Rattle.call_stages.specs.declared.once.Once.{Once}
use Rattle.call_stages.specs.declared.once.Once.TheVariants as once
use Rattle.call_stages.specs.declared.once.Placed.{Placed}
use Rattle.node_ops.specs.declared.running.Running.{Running}
use Rattle.node_ops.specs.Asked.{op_in}
use Rattle.index_law.specs.Worlds.{facts}
use Rattle.index_law.specs.Weights.{index_weight}
use Rattle.index_core.specs.declared.party.Whole.{Whole}
use Rattle.index_core.specs.declared.party.Whole.TheVariants as whole
use Rattle.index_core.specs.Indexes.{Index, world}

-- What the index weighs, and what the image weighs that a crash leaves of it.
abbrev pub weight_of : Index → ℕ
weight_of s = index_weight s.layout (facts (world s))

abbrev pub crash_weight : Index → ℕ
crash_weight s = image_weight s.layout (durable_row s.layout s.words)

-- One for a put.
abbrev pub put_count : NameOp → ℕ
put_count (op.Put name value) = 1
put_count (op.Get name) = 0
put_count (op.Del name) = 0

-- One for a put that took place where its name had no number: it added the name.
abbrev pub added_if : NameOp → Option ℕ → ℕ
added_if asked None = put_count asked
added_if asked (Some old) = 0

-- The same of an answer, and of that of a whole call.
abbrev pub added_by : NameOp → Once Placed → ℕ
added_by asked (once.Done placed) = added_if asked placed.old
added_by asked _ = 0

abbrev pub added_whole : NameOp → Whole → ℕ
added_whole asked (whole.Placed placed) = added_if asked placed.old
added_whole asked _ = 0

-- One for a put in flight.
abbrev pub put_in : Option Running → ℕ
put_in None = 0
put_in (Some machine) = put_count (op_in machine)
