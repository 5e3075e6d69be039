-- What a party relies on that merges the right neighbour of its node into that.
use Rattle.std.specs.Prelude.{ℕ, ◌-◌, false, List, [], ◌∷◌, slice_index, Some, None}
use Rattle.pm_words.specs.Offsets.{bitmap_offset}
use Rattle.call_stages.specs.Stages.{Held, Grip, Stage, Holds, Eyes, Meets, fresh_grip}
use Rattle.call_stages.specs.Prevs.{no_debt}
use Rattle.call_stages.specs.Footings.{Footing}
use Rattle.smo_log.specs.LogLines.{empty_line}
use Rattle.split_merge.specs.declared.merging.Near.{Near}
use Rattle.split_merge.specs.declared.merging.Merge.{Merge}
use Rattle.split_merge.specs.declared.merging.MergeAt.{MergeAt}
use Rattle.split_merge.specs.declared.merging.MergeAt.TheVariants as at
use Rattle.split_merge.specs.MoveStages.{words_onto}
use Rattle.split_merge.specs.JoinStages.{near_seen, knowing, join_footing}

-- the call, with what it knows of its node
abbrev pub knows_near : Near → Held → Held
knows_near near h = knowing (near_seen near.own near.right) [] None h

-- the neighbour, of which it knows words
abbrev pub neighbour : Near → ℕ → List (ℕ × ℕ) → Grip
neighbour near locked seen = record (fresh_grip near.right locked) { seen = seen }

-- its words before this offset, from the bitmap on
abbrev pub head_before : List ℕ → ℕ → List (ℕ × ℕ)
head_before head count = words_onto (λ offset. slice_index head offset) 1 (count - 1) []

-- its own node's words with so many of the fingerprints
abbrev pub prints_known : Near → List ℕ → ℕ → List (ℕ × ℕ)
prints_known near prints count =
    words_onto (λ offset. slice_index prints (offset - 8)) 8 count (near_seen near.own near.right)

abbrev pub merge_at_stage : Held → Merge → MergeAt → Stage
merge_at_stage h merge at.Bitmap = Holds merge.node merge.word h
merge_at_stage h merge (at.Next own) = Holds merge.node merge.word (knowing ((bitmap_offset, own) ∷ []) [] None h)
merge_at_stage h merge (at.Version near) = Holds merge.node merge.word (knows_near near h)
merge_at_stage h merge (at.Lock near version locked) =
    Eyes merge.node merge.word (knows_near near h) near.right version locked false
merge_at_stage h merge (at.Head near locked head count) =
    Meets merge.node merge.word (knows_near near h) (neighbour near locked (head_before head count))
merge_at_stage h merge (at.Prints near locked head prints count) =
    Meets merge.node merge.word (knowing (prints_known near prints count) [] None h)
    (neighbour near locked (head_before head 16))
merge_at_stage h merge (at.Join join) = (join_footing h join).stage
merge_at_stage h merge (at.Part near locked bitmap) =
    Meets merge.node merge.word (knows_near near h) (neighbour near locked ((bitmap_offset, bitmap) ∷ []))
merge_at_stage h merge (at.Leave near) = Holds merge.node merge.word (knows_near near h)

-- until it holds all that it needs of both nodes, the line is EMPTY
abbrev pub merge_at_footing : Held → Merge → MergeAt → Footing
merge_at_footing h merge (at.Join join) = join_footing h join
merge_at_footing h merge at =
    record { stage = merge_at_stage h merge at; line = Some (empty_line merge.line); debt = no_debt }

-- of the node, which it holds as h says
abbrev pub merge_footing : Held → Merge → Footing
merge_footing h merge = merge_at_footing h merge merge.at
