-- What a stage of a call that has only read is: nothing is pending there or counted, it has no place, and what it holds
-- it holds for the call's name.
use Rattle.std.proofs.Common.{◌≡◌, ℕ, ◌⊎◌, inl, inr, true, false, cond, List, Option, Some, None, IfSome, refl, sym, subst, ◌∙◌}
use Rattle.cat_history.specs.declared.op.Change.{Change}
use Rattle.version_lock.specs.Versions.{kept_count, locked_word, is_worn_word}
use Rattle.call_stages.specs.Stages.{Known, Held, Sight, Stage, Idle, Saw, Wears, Reads, Holds, Eyes, Splits, Leaves, Meets, Joins, counted, pending_in, placed_in}
use Rattle.call_stages.specs.Watches.{Watching, Nothing, Watches}
use Rattle.data_list.specs.WalkStages.{walk_watching, view_stage, watching_stage}
use Rattle.data_list.specs.declared.walk.Walk.{Walk}
use Rattle.node_ops.specs.declared.call.Call.{Call}
use Rattle.node_ops.specs.declared.lookup.Hold.{Hold}
use Rattle.node_ops.specs.declared.lookup.LookupAt.{LookupAt}
use Rattle.node_ops.specs.declared.lookup.LookupAt.TheVariants as look
use Rattle.node_ops.specs.Asked.{IsAbout}
use Rattle.node_ops.specs.Calls.{name_in}
use Rattle.node_ops.specs.CallStages.{timed, held_by, walk_by, lookup_at_stage}

-- a stage counts the change that is pending there, or none
counted_or : (s : Stage) → (counted s ≡ pending_in s) ⊎ (counted s ≡ None)
counted_or (Holds n w h) =
    elim h.ready as (λ b. (elim b [ true ↦ h.pending | false ↦ None ] ≡ h.pending) ⊎
    (elim b [ true ↦ h.pending | false ↦ None ] ≡ None)) [ true ↦ inl refl | false ↦ inr refl ]
counted_or Idle = inr refl
counted_or (Saw n v w k) = inr refl
counted_or (Wears n v) = inr refl
counted_or (Reads n v sight told) = inr refl
counted_or (Eyes n w h m v u free) = inr refl
counted_or (Splits left fresh phase) = inr refl
counted_or (Leaves left) = inr refl
counted_or (Meets n w h right) = inr refl
counted_or (Joins h left right pace) = inr refl

pub counted_pends : (P : Change → Type 0) (s : Stage) → IfSome (pending_in s) P → IfSome (counted s) P
counted_pends P s pends = elim (counted_or s) [
  | inl same ↦ subst (λ (o : Option Change). IfSome o P) (sym same) pends
  | inr none ↦ subst (λ (o : Option Change). IfSome o P) (sym none) tt
]

pub uncounted : (s : Stage) → pending_in s ≡ None → counted s ≡ None
uncounted s none = elim (counted_or s) [ inl same ↦ same ∙ none | inr is ↦ is ]

-- What is held is held for this name, and nothing is changed.
pub record HasOnlyRead (name : List ℕ) (h : Held) : Type 0 where
  pub named : h.name ≡ name
  pub pending : h.pending ≡ None
  pub placed : h.placed ≡ None

pub record IsOnlyReading (name : List ℕ) (s : Stage) : Type 0 where
  pub pending : pending_in s ≡ None
  pub placed : placed_in s ≡ None
  pub about : IsAbout name s

-- with a lock, and by what it saw
pub holds_only : (n w : ℕ) (h : Held) (name : List ℕ) → HasOnlyRead name h → IsOnlyReading name (Holds n w h)
holds_only n w h name only = record { pending = only.pending; placed = only.placed; about = only.named }

pub reads_only : (n w : ℕ) (kept : Sight) (h : Held) (name : List ℕ) → HasOnlyRead name h
    → IsOnlyReading name (Reads n w kept (Some h))
reads_only n w kept h name only = record { pending = refl; placed = refl; about = only.named }

-- a walk
views_only : (name : List ℕ) (w : Watching) → IsOnlyReading name (view_stage w)
views_only name Nothing = record { pending = refl; placed = refl; about = tt }
views_only name (Watches n version sight) = record { pending = refl; placed = refl; about = tt }

watches_only : (name : List ℕ) (g : ℕ) (w : Watching) → IsOnlyReading name (watching_stage g w)
watches_only name g Nothing = record { pending = refl; placed = refl; about = tt }
watches_only name g (Watches n version sight) =
    elim (is_worn_word version g) as (λ b. IsOnlyReading name (cond b (Wears n version)
    (Saw n version (locked_word g (kept_count version g)) sight))) [
      | true ↦ record { pending = refl; placed = refl; about = tt }
      | false ↦ record { pending = refl; placed = refl; about = tt }
    ]

walks_only : (name : List ℕ) (limit : Option ℕ) (walk : Walk) → IsOnlyReading name (walk_by limit walk)
walks_only name None walk = views_only name (walk_watching walk)
walks_only name (Some limit) walk = watches_only name walk.generation (walk_watching walk)

-- and a look-up
timed_only : (call : Call) (hold : Hold) (known : Known) → HasOnlyRead (name_in call) (timed call hold known)
timed_only call hold known = record { named = refl; pending = refl; placed = refl }

held_only : (limit : Option ℕ) (n word : ℕ) (kept : Sight) (call : Call) (hold : Hold) (known : Known)
    → IsOnlyReading (name_in call) (held_by limit n word kept (timed call hold known))
held_only None n word kept call hold known = reads_only n word kept _ _ (timed_only call hold known)
held_only (Some limit) n word kept call hold known = holds_only n word _ _ (timed_only call hold known)

pub looks_only : (kept : Sight) (call : Call) (at : LookupAt)
    → IsOnlyReading (name_in call) (lookup_at_stage kept call at)
looks_only kept call (look.Floor floor) = record { pending = refl; placed = refl; about = tt }
looks_only kept call (look.Walk walk) = walks_only (name_in call) call.limit walk
looks_only kept call (look.Read seen) = record { pending = refl; placed = refl; about = tt }
looks_only kept call (look.Lock seen locked) = record { pending = refl; placed = refl; about = tt }
looks_only kept call (look.Clock locked) = record { pending = refl; placed = refl; about = refl }
looks_only kept call (look.Spent hold) = record { pending = refl; placed = refl; about = refl }
looks_only kept call (look.Bitmap hold) = held_only call.limit _ _ _ call hold _
looks_only kept call (look.Prints hold bitmap prints k) = held_only call.limit _ _ _ call hold _
looks_only kept call (look.Name hold directory left slot k) = held_only call.limit _ _ _ call hold _
looks_only kept call (look.Value hold directory slot) = held_only call.limit _ _ _ call hold _
