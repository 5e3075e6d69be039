-- What words say by number.
use Rattle.std.specs.Prelude.{ℕ, ◌-◌, ◌^◌}

-- The statuses of a node: that of one that is in nobody's use, of one that is listed, and of one that was merged.
abbrev pub free_status : ℕ
free_status = 0

abbrev pub live_status : ℕ
live_status = 1

abbrev pub gone_status : ℕ
gone_status = 2

-- The states of a log line: it says nothing, its change may still be taken back, or it waits for a turn.
abbrev pub empty_state : ℕ
empty_state = 0

abbrev pub open_state : ℕ
open_state = 1

abbrev pub ready_state : ℕ
ready_state = 2

-- The kinds of change that a log line tells.
abbrev pub split_kind : ℕ
split_kind = 1

abbrev pub merge_kind : ℕ
merge_kind = 2

-- What the updater lock says: no turn of the updater is being made, or one is.
abbrev pub untaken_lock : ℕ
untaken_lock = 0

abbrev pub taken_lock : ℕ
taken_lock = 1

-- The kind of leaves, in references and marks; the kinds 2 to 5 are those of cells, by their form.
abbrev pub leaf_kind : ℕ
leaf_kind = 1

-- The version of a permutation that was never made: no node has this version word.
abbrev pub no_permutation : ℕ
no_permutation = 2 ^ 64 - 1
