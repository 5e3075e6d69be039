-- What a put is while it splits: it has no change, and no place.
use Rattle.std.proofs.Common.{◌≡◌, ℕ, Bool, None, refl, ◌∙◌}
use Rattle.call_stages.specs.Stages.{Held, Grip, Phase, Stage, Idle, Saw, Wears, Reads, Holds, Eyes, Splits, Leaves, Meets, Joins, counted, pending_in, placed_in}
use Rattle.split_merge.specs.OfSplits.{StandsFor, IsOfSplit}
use Rattle.node_ops.specs.Asked.{IsAbout}
use Rattle.node_ops.proofs.OnlyRead.{uncounted}

-- what holds of the stages of a split holds of each that is one
split_is : (P : Stage → Type 0) (h : Held) → ((n w : ℕ) (k : Held) → StandsFor h k → P (Holds n w k))
    → ((n w : ℕ) (k : Held) (m v u : ℕ) (free : Bool) → StandsFor h k → P (Eyes n w k m v u free))
    → ((left fresh : Grip) (phase : Phase) → P (Splits left fresh phase)) → ((left : Grip) → P (Leaves left))
    → (s : Stage) → IsOfSplit h s → P s
split_is P h holds eyes splits leaves (Holds n w k) is = holds n w k is
split_is P h holds eyes splits leaves (Eyes n w k m v u free) is = eyes n w k m v u free is
split_is P h holds eyes splits leaves (Splits left fresh phase) is = splits left fresh phase
split_is P h holds eyes splits leaves (Leaves left) is = leaves left
split_is P h holds eyes splits leaves Idle is = absurd is
split_is P h holds eyes splits leaves (Saw n v w k) is = absurd is
split_is P h holds eyes splits leaves (Wears n v) is = absurd is
split_is P h holds eyes splits leaves (Reads n v sight told) is = absurd is
split_is P h holds eyes splits leaves (Meets n w k right) is = absurd is
split_is P h holds eyes splits leaves (Joins k left right pace) is = absurd is

-- it has no place
pub split_unplaced : (h : Held) (s : Stage) → h.placed ≡ None → IsOfSplit h s → placed_in s ≡ None
split_unplaced h s unplaced is =
    split_is (λ (t : Stage). placed_in t ≡ None) h (λ n w k stands. stands.placed ∙ unplaced)
    (λ n w k m v u free stands. stands.placed ∙ unplaced) (λ left fresh phase. refl) (λ left. refl) s is

-- nor a change that its node shows, and so none to count
pub split_unpending : (h : Held) (s : Stage) → h.pending ≡ None → IsOfSplit h s → pending_in s ≡ None
split_unpending h s none is =
    split_is (λ (t : Stage). pending_in t ≡ None) h (λ n w k stands. stands.pending ∙ none)
    (λ n w k m v u free stands. refl) (λ left fresh phase. refl) (λ left. refl) s is

pub split_uncounted : (h : Held) (s : Stage) → h.pending ≡ None → IsOfSplit h s → counted s ≡ None
split_uncounted h s none is = uncounted s (split_unpending h s none is)

-- what it holds it holds for its name
pub split_about : (h : Held) (s : Stage) → IsOfSplit h s → IsAbout h.name s
split_about h s is =
    split_is (IsAbout h.name) h (λ n w k stands. stands.name) (λ n w k m v u free stands. stands.name)
    (λ left fresh phase. tt) (λ left. tt) s is
