-- What the merge of a lone delete has found out: whether it merges at all.
use Rattle.std.specs.Prelude.{◌≡◌, ℕ, Bool, true, false, List}
use Rattle.cat_history.specs.declared.op.NameOp.TheVariants as op
use Rattle.split_merge.specs.declared.merging.MergeAt.{MergeAt}
use Rattle.split_merge.specs.declared.merging.MergeAt.TheVariants as at
use Rattle.index_law.specs.Worlds.{World, facts}
use Rattle.lone_call_law.specs.Merging.{NextIsWorn, FindsMerge}

-- It makes the stores of the merge, or has nothing more to do than to give its node back.
abbrev pub merge_leaves : MergeAt → Bool
merge_leaves (at.Join join) = true
merge_leaves (at.Leave near) = true
merge_leaves _ = false

-- A delete of the name finds nothing to merge, or nothing that can be locked.
abbrev pub FindsNone : World → List ℕ → Type 0
FindsNone w name = ¬ FindsMerge w (op.Del name)

-- Once it looks at the version word of the next node, or has its lock, that isn't worn; where it gives up, there was
-- nothing to merge.
abbrev pub MergeForesees : World → List ℕ → MergeAt → Type 0
MergeForesees w name (at.Lock near version locked) = (version ≡ (facts w).version near.right) × ¬ NextIsWorn w name
MergeForesees w name (at.Head near locked head count) = ¬ NextIsWorn w name
MergeForesees w name (at.Prints near locked head prints count) = ¬ NextIsWorn w name
MergeForesees w name (at.Join join) = ¬ NextIsWorn w name
MergeForesees w name (at.Part near locked bitmap) = FindsNone w name
MergeForesees w name (at.Leave near) = FindsNone w name
MergeForesees w name _ = Unit {0}
