-- Generated rounds: what is drawn from a seed, and the calls that it makes.
use Rattle.std.specs.Prelude.{ℕ, zero, suc, ◌+◌, ◌*◌, ◌/◌, ◌%◌, ◌^◌, if◌then◌else◌, List, [], ◌∷◌, map, None}
use Rattle.std.specs.Prelude.{nat_lt}
use Rattle.std.specs.List.{range_with_len}
use Rattle.cat_history.specs.declared.op.CallerOp.{CallerOp}
use Rattle.cat_history.specs.declared.op.Op.{Op}
use Rattle.cat_history.specs.declared.op.Op.TheVariants.{Put, Get, Del, Scan}
use Rattle.cat_history.specs.declared.plan.RoundPlan.{RoundPlan}

-- The next number of the generator.
abbrev pub next_number : ℕ → ℕ
next_number x = (1103515245 * x + 12345) % 2 ^ 31

-- Its number after so many draws.
abbrev pub number_after : ℕ → ℕ → ℕ
number_after seed zero = seed
number_after seed (suc draws) = next_number (number_after seed draws)

-- The draw of this number, counted from 1.
abbrev pub drawn : ℕ → ℕ → ℕ
drawn seed draw = number_after seed draw / 65536

-- The name of a caller's key: a letter for the caller, from `a` on, and the key in two digits.
abbrev pub generated_name : ℕ → ℕ → List ℕ
generated_name caller key = (97 + caller) ∷ (48 + key / 10) ∷ (48 + key % 10) ∷ []

-- What a choice from 0 to 7 asks of a name: four of them a put of this number, two a get, one a delete, one a scan.
abbrev pub chosen_op : ℕ → List ℕ → ℕ → Op
chosen_op choice name number = if nat_lt choice 4 then Put name number else
    if nat_lt choice 6 then Get name else
    if nat_lt choice 7 then Del name else Scan name 5

-- The call of this index, from 0: its first draw tells the name, its second one the choice.
abbrev pub generated_call : ℕ → ℕ → ℕ → CallerOp
generated_call seed callers index = record {
  caller = index % callers;
  op = chosen_op (drawn seed (2 * index + 2) % 8)
      (generated_name (index % callers) (drawn seed (2 * index + 1) % 64)) index;
}

-- The calls from a seed, so many of so many callers.
abbrev pub generated_calls : ℕ → ℕ → ℕ → List CallerOp
generated_calls seed count callers = map (generated_call seed callers) (range_with_len 0 count)

-- The round of these calls, with the settings that hold at first.
abbrev pub generated_plan : ℕ → ℕ → ℕ → RoundPlan
generated_plan seed count callers =
    record { ops = generated_calls seed count callers; updater = 64; limit = 2 ^ 62; crash = None }
