-- What is known of a try that is to be made again, since it has split its node, or since it lacks a node to do so.
use Rattle.std.proofs.Common.{◌≡◌, ℕ, true, refl, subst}
use Rattle.std.specs.Prelude.{Option, List}
use Rattle.pm_words.specs.declared.again.Again.TheVariants as again
use Rattle.cat_history.specs.declared.op.NameOp.{NameOp}
use Rattle.call_stages.specs.declared.once.Once.{Once}
use Rattle.call_stages.specs.declared.once.Once.TheVariants as once
use Rattle.call_stages.specs.declared.once.Placed.{Placed}
use Rattle.index_law.specs.Worlds.{Party, World}
use Rattle.lone_hops_law.specs.lone_call_law.specs.LoneCalls.{IsAnswered}
use Rattle.lone_hops_law.specs.lone_updater_law.specs.CallLogs.{LeavesLines, MakesReady}
use Rattle.index_core.specs.Lone.{lacks_node, needs_split}

-- Its answer tells it.
pub is_split : (r : Once Placed) → needs_split r ≡ true → (n : ℕ) × (r ≡ once.Again (again.NeedsSplit n))
is_split (once.Again (again.NeedsSplit n)) is = (n, refl)
is_split _ is = absurd (cc)

lacks_free : (r : Once Placed) → lacks_node r ≡ true → r ≡ once.Again again.NoFree
lacks_free (once.Again again.NoFree) is = refl
lacks_free _ is = absurd (cc)

-- So its cause is the one of that answer,
pub split_told : (w : World) (asked : NameOp) (limit : Option ℕ) (w' : World) (p : Party) (r : Once Placed)
    → IsAnswered w asked limit w' p r → (is : needs_split r ≡ true)
    → IsAnswered w asked limit w' p (once.Again (again.NeedsSplit (is_split r is).0))
split_told w asked limit w' p r end is = subst (IsAnswered w asked limit w' p) (is_split r is).1 end

pub lacks_told : (w : World) (asked : NameOp) (limit : Option ℕ) (w' : World) (p : Party) (r : Once Placed)
    → IsAnswered w asked limit w' p r → lacks_node r ≡ true
    → IsAnswered w asked limit w' p (once.Again again.NoFree)
lacks_told w asked limit w' p r end is = subst (IsAnswered w asked limit w' p) (lacks_free r is) end

-- and one that has split its node has made a log line READY.
pub split_is_ready : (name : List ℕ) (caller : ℕ) (w w' : World) (r : Once Placed) → LeavesLines name caller w w' r
    → needs_split r ≡ true → MakesReady caller w w'
split_is_ready name caller w w' r left is = subst (LeavesLines name caller w w') (is_split r is).1 left
