-- What a split answers, by the words that it was told.
use Rattle.std.specs.Prelude.{◌≡◌, ℕ, ◌<◌, ◌↔◌}
use Rattle.pm_words.specs.declared.again.Again.TheVariants as again
use Rattle.pm_words.specs.declared.machine.Turn.{Turn}
use Rattle.pm_words.specs.declared.machine.Turn.TheVariants.{Go, Done}
use Rattle.call_stages.specs.declared.view.View.{View}
use Rattle.pm_alloc.specs.declared.claim.Claimed.TheVariants as was
use Rattle.pm_alloc.specs.Events.{Heard, HasHeard, heard_at, Tells}
use Rattle.smo_log.specs.declared.take.TakeAt.TheVariants as take_at
use Rattle.smo_log.specs.Laws.{NoneEmpty, HasLooked}
use Rattle.split_merge.specs.declared.splitting.Split.{Split}
use Rattle.split_merge.specs.declared.splitting.SplitAt.{SplitAt}
use Rattle.split_merge.specs.declared.splitting.SplitAt.TheVariants as at
use Rattle.split_merge.specs.declared.splitting.SplitDone.{SplitDone}
use Rattle.split_merge.specs.declared.splitting.SplitDone.TheVariants as answer
use Rattle.split_merge.specs.Splits.{split_turned, split_takes}

-- The numbers of one split: the states of its caller's lines, and what its claim heard.
pub record SplitHeard : Type 0 where
  pub lines : ℕ → ℕ
  pub claim : Heard

-- One of the caller's lines was EMPTY.
abbrev pub SomeEmpty : (ℕ → ℕ) → Type 0
SomeEmpty told = (index : ℕ) × (index < 8) × (told index ≡ 0)

-- What a split answers that was told these: none of the lines was EMPTY; or one was, and then what the claim heard: no
-- node was free, another party had the first one, or this one was claimed.
abbrev pub SplitTells : View → SplitHeard → SplitDone → Type 0
SplitTells view heard (answer.Done fresh) = SomeEmpty heard.lines ×
    ((word : ℕ) × Tells view.layout view.generation heard.claim (was.Node fresh word))
SplitTells view heard (answer.Again again.LogFull) = NoneEmpty heard.lines 8
SplitTells view heard (answer.Again again.NoFree) = SomeEmpty heard.lines ×
    Tells view.layout view.generation heard.claim was.NoFree
SplitTells view heard (answer.Again why) = SomeEmpty heard.lines ×
    Tells view.layout view.generation heard.claim (was.Again why)

-- What it has loaded so far is so.
abbrev pub SplitHas : View → SplitHeard → SplitAt → Type 0
SplitHas view heard at.Next = Unit {0}
SplitHas view heard (at.Take next take) = HasLooked heard.lines take.index take.at
SplitHas view heard (at.Claim next line claim) = SomeEmpty heard.lines ×
    HasHeard view.layout view.generation heard.claim claim.node claim.at
SplitHas view heard (at.Read share full count) = SplitTells view heard (answer.Done share.fresh)
SplitHas view heard (at.Move moving) = SplitTells view heard (answer.Done moving.plan.share.fresh)
SplitHas view heard (at.Refuse next why) = SplitTells view heard (answer.Again why)

-- The number that it is told next is one of these, if it loads a state of a line, or goes on with its claim.
abbrev pub HearsSo : SplitHeard → SplitAt → ℕ → Type 0
HearsSo heard (at.Take next take) x = take.at ≡ take_at.State → x ≡ heard.lines take.index
HearsSo heard (at.Claim next line claim) x = x ≡ heard_at heard.claim claim.node claim.at
HearsSo heard _ x = Unit {0}

abbrev pub SplitHeeds : View → SplitHeard → Turn Split SplitDone → Type 0
SplitHeeds view heard (Go next) = SplitHas view heard next.at
SplitHeeds view heard (Done answer) = SplitTells view heard answer

-- A split begins with nothing heard; each turn adds what it is told, and the answer follows from that.
abbrev pub SplitsHeed : Type 0
SplitsHeed = (split : Split) (heard : SplitHeard) (x : ℕ) → split_takes split x → HearsSo heard split.at x →
    SplitHas split.view heard split.at →
    SplitHeeds split.view heard (split_turned split x)

-- So it is answered that the log is full exactly where none of its caller's lines was EMPTY.
abbrev pub FullsHeed : Type 0
FullsHeed = (view : View) (heard : SplitHeard) (done : SplitDone) → SplitTells view heard done →
    ((done ≡ answer.Again again.LogFull) ↔ NoneEmpty heard.lines 8)
