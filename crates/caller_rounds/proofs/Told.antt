-- That a report may have the records of a round.
use Rattle.std.proofs.Common.{◌≡◌, ◌≢◌, ℕ, ◌<◌, Bool, true, false, if◌then◌else◌, List, [], ◌∷◌, ◌++◌, map, get_or, refl, subst}
use Rattle.std.specs.Prelude.{All, Option}
use Rattle.std.proofs.lemmas.List.Elements.{All-nil, All-cons, All-head, All-tail, All-contains, Contains-get_or}
use Rattle.std.proofs.lemmas.List.Sorted.{All-permutation}
use Rattle.cat_history.specs.Maps.{Map}
use Rattle.cat_history.specs.Writes.{after}
use Rattle.cat_history.specs.CrashRounds.{is_shown, settled_reply}
use Rattle.cat_history.specs.Records.{Call, call_of, change_asked, numbered, numbered_after}
use Rattle.cat_history.specs.Rounds.{IsAnswered, IsItsMark, IsOld, IsScan, IsWriter, AreItsParts}
use Rattle.cat_history.specs.declared.op.CallerOp.{CallerOp}
use Rattle.cat_history.specs.declared.op.Op.{Op}
use Rattle.cat_history.specs.declared.op.Op.TheVariants.{Put, Get, Del, Scan}
use Rattle.cat_history.specs.declared.record.CutMark.{CutMark}
use Rattle.cat_history.specs.declared.record.CutMark.TheVariants.{At, Open, Found, Lost, Read}
use Rattle.cat_history.specs.declared.record.Reply.{Reply}
use Rattle.cat_history.specs.declared.record.Reply.TheVariants.{Old, Parts, Full, Spent, Cut, Unstarted}
use Rattle.cat_history.specs.declared.record.ScanPart.{ScanPart}
use Rattle.cat_text.specs.ReportGrammar.{IsGet, IsReportMark, IsReportOp, IsReportReply}
use Rattle.caller_rounds.specs.Standing.{AnswersAreTold, RecordsAreTold, SettledAreTold}
use Rattle.caller_rounds.proofs.Parting.{map-has}

no-scan : (m : Map) (op : Op) (old : Option ℕ) → IsOld m op old → IsScan op → ⊥
no-scan m (Put name value) old is scans = scans
no-scan m (Get name) old is scans = scans
no-scan m (Del name) old is scans = scans
no-scan m (Scan from count) old is scans = is

is-scan : (maps : ℕ → Map) (op : Op) (cut : _) (parts : List ScanPart) → AreItsParts maps op cut parts → IsScan op
is-scan maps (Put name value) cut parts are = are
is-scan maps (Get name) cut parts are = are
is-scan maps (Del name) cut parts are = are
is-scan maps (Scan from count) cut parts are = tt

no-get : (op : Op) → IsItsMark op Read → IsGet op
no-get (Put name value) is = absurd (is refl)
no-get (Get name) is = tt
no-get (Del name) is = absurd (is refl)
no-get (Scan from count) is = absurd is

not-read : {mark : CutMark} → mark ≢ Read → (op : Op) → IsItsMark op mark → IsWriter op
not-read other (Put name value) is = tt
not-read other (Get name) is = absurd (other is)
not-read other (Del name) is = tt
not-read other (Scan from count) is = absurd is

-- of an open mark one of two things is told
settled-mark : (op : Op) (b : Bool) → IsWriter op → IsReportMark op (if b then Found else Lost)
settled-mark op true writes = writes
settled-mark op false writes = writes

pub settled_are_told : SettledAreTold
settled_are_told base history limit op (Old old place) end is small = (no-scan (after base history place) op old is, small.0, small.1)
settled_are_told base history limit op (Parts parts cut) end is small = (is-scan (after base history) op cut parts is, small.0, small.1)
settled_are_told base history limit op Full end is small = is
settled_are_told base history limit op (Spent clock) end is small = (is.0, small)
settled_are_told base history limit op (Cut (At place)) end is small = (not-read (λ (read : At place ≡ Read). cc) op is, small)
settled_are_told base history limit op (Cut Open) end is small = settled-mark op (is_shown end (change_asked op)) (not-read (λ (read : Open ≡ Read). cc) op is)
settled_are_told base history limit op (Cut Found) end is small = not-read (λ (read : Found ≡ Read). cc) op is
settled_are_told base history limit op (Cut Lost) end is small = not-read (λ (read : Lost ≡ Read). cc) op is
settled_are_told base history limit op (Cut Read) end is small = no-get op is
settled_are_told base history limit op Unstarted end is small = tt

-- one that was answered has nothing to settle
pub answered-settled : (end : Map) (op : Op) (reply : Reply) → IsAnswered reply → settled_reply end op reply ≡ reply
answered-settled end op (Old old place) answered = refl
answered-settled end op (Parts parts cut) answered = refl
answered-settled end op Full answered = refl
answered-settled end op (Spent clock) answered = refl
answered-settled end op (Cut mark) answered = absurd answered
answered-settled end op Unstarted answered = absurd answered

pub answers_are_told : AnswersAreTold
answers_are_told base history limit op reply is answered small =
    subst (IsReportReply op) (answered-settled base op reply answered) (settled_are_told base history limit op reply base is small)

-- what a report may have of a call
abbrev IsTold : Call → Type 0
IsTold c = (c.caller < 16) × IsReportOp c.op

abbrev IsAsked : CallerOp → Type 0
IsAsked a = (a.caller < 16) × IsReportOp a.op

calls-told : (before : List ℕ) (asked : List CallerOp) → All IsAsked asked → All IsTold (numbered_after before asked)
calls-told before [] all = All-nil IsTold
calls-told before (a ∷ asked) all =
    let first : IsAsked a = All-head IsAsked a asked all in
    All-cons IsTold _ (numbered_after (before ++ a.caller ∷ []) asked) first (calls-told (before ++ a.caller ∷ []) asked (All-tail IsAsked a asked all))

pub records_are_told : RecordsAreTold
records_are_told base asked limit records history round all replies k d within =
    let calls : All IsTold (map call_of records) = All-permutation IsTold (numbered asked) (map call_of records) round.each_call (calls-told [] asked all) in
    let r = get_or records k d in
    let known : IsTold (call_of r) = All-contains IsTold (map call_of records) (call_of r) calls (map-has call_of records r (Contains-get_or records k d within)) in
    record { caller = known.0; op = known.1; reply = replies k d within }
