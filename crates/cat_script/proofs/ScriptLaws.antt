-- A text is one script at most, has one first fault at most, and not both.
use Rattle.std.proofs.Common.{◌≡◌, ℕ, ◌<◌, ◌≤◌, List, [], ◌∷◌, ◌++◌, length, sum_by, refl, sym, ap, subst, ◌∙◌, arith}
use Rattle.std.proofs.lemmas.List.{length_push}
use Rattle.std.proofs.lemmas.List.Sums.{sum_by-append, sum_by-cons, sum_by_push}
use Rattle.std.specs.List.{AllZip}
use Rattle.cat_script.specs.Asks.{IsLine}
use Rattle.cat_script.specs.Laws.{IsOneScriptAtMost, FaultIsNoScript, IsOneFaultAtMost}
use Rattle.cat_script.specs.Limits.{KeepLimits, HasFewEnds, HasFewCalls, end_count, call_count, scan_count}
use Rattle.cat_script.specs.Lines.{lines_of}
use Rattle.cat_script.specs.Scripts.{IsLineFault, IsFirstFault, numbered}
use Rattle.cat_script.specs.declared.fault.ScriptFault.{ScriptFault}
use Rattle.cat_script.specs.declared.fault.ScriptFault.TheVariants as fault
use Rattle.cat_script.specs.declared.line.Line.{Line}
use Rattle.cat_script.proofs.LineLaws.{line_one, asked_none, reason_one}
use Rattle.cat_script.proofs.RoundLaws.{rounds_one}

-- lines ask one list of things
pub said_one : (lines lines' : List (List ℕ)) (a b : List Line) → lines ≡ lines' → AllZip IsLine lines a → AllZip IsLine lines' b → a ≡ b
said_one lines lines' a b same all all' = go lines a b all (subst (λ ls. AllZip IsLine ls b) (sym same) all') where
  go : (ls : List (List ℕ)) (a b : List Line) → AllZip IsLine ls a → AllZip IsLine ls b → a ≡ b
  go [] [] [] all all' = refl
  go [] (x ∷ a) b all all' = absurd all
  go [] [] (y ∷ b) all all' = absurd all'
  go (line ∷ ls) [] b all all' = absurd all
  go (line ∷ ls) (x ∷ a) [] all all' = absurd all'
  go (line ∷ ls) (x ∷ a) (y ∷ b) all all' =
      let heads = line_one line x y all.0 all'.0 in
      let tails = go ls a b all.1 all'.1 in
      λ i. heads i ∷ tails i

pub one_script : IsOneScriptAtMost
one_script bytes a b is is' =
    let same = said_one (lines_of bytes) (lines_of bytes) is.said is'.said refl is.lines is'.lines in
    let rounds = rounds_one is.said is'.said a.rounds b.rounds same is.rounds is'.rounds in
    let lines = is.told ∙ ap (numbered 1) same ∙ sym is'.told in
    λ i. record { rounds = rounds i; lines = lines i }

-- what lines ask, cut where the lines are
record CutSaid (before : List (List ℕ)) (line : List ℕ) (said : List Line) : Type 0 where
  front : List Line
  here : Line
  back : List Line
  cut : said ≡ front ++ here ∷ back
  lines : AllZip IsLine before front
  is : IsLine line here

cut_said : (before : List (List ℕ)) (line : List ℕ) (after : List (List ℕ)) (said : List Line) → AllZip IsLine (before ++ line ∷ after) said → CutSaid before line said
cut_said [] line after [] all = absurd all
cut_said [] line after (x ∷ said) all = record {
  front = [];
  here = x;
  back = said;
  cut = refl;
  lines = tt;
  is = all.0;
}
cut_said (first ∷ before) line after [] all = absurd all
cut_said (first ∷ before) line after (x ∷ said) all =
    let rest = cut_said before line after said all.1 in record {
      front = x ∷ rest.front;
      here = rest.here;
      back = rest.back;
      cut = ap (λ (ls : List Line). x ∷ ls) rest.cut;
      lines = (all.0, rest.lines);
      is = rest.is;
    }

-- a beginning has no more of anything
fewer : (f : Line → ℕ) (front : List Line) (here : Line) (back : List Line) → sum_by f (front ++ here ∷ []) ≤ sum_by f (front ++ here ∷ back)
fewer f front here back = omega (arith, sum_by_push f front here, sum_by-append f front (here ∷ back), sum_by-cons f here back)

-- a line within lines that ask something and keep the limits has no fault
faultless : (line : List ℕ) (front : List Line) (here : Line) (back : List Line) (what : ScriptFault) → IsLine line here → KeepLimits (front ++ here ∷ back) → IsLineFault front line what → ⊥
faultless line front here back fault.Bytes is keep wrong = wrong
faultless line front here back (fault.Rounds number) is keep wrong =
    let same = line_one line wrong.0 here wrong.1 is in
    wrong.2.1 (omega (arith, keep.ends, fewer end_count front here back, ap (λ (l : Line). sum_by end_count (front ++ l ∷ [])) same))
faultless line front here back (fault.Calls number) is keep wrong =
    let same = line_one line wrong.0 here wrong.1 is in
    wrong.2.2 (omega (arith, keep.calls, fewer call_count front here back, ap (λ (l : Line). sum_by call_count (front ++ l ∷ [])) same))
faultless line front here back (fault.Scans number) is keep wrong =
    let same = line_one line wrong.0 here wrong.1 is in
    wrong.2.3 (omega (arith, keep.scans, fewer scan_count front here back, ap (λ (l : Line). sum_by scan_count (front ++ l ∷ [])) same))
faultless line front here back (fault.Line number why) is keep wrong = asked_none line here why is wrong.1
faultless line front here back fault.NoMemory is keep wrong = wrong

-- no fault within lines that ask something and keep the limits
no_fault : (before : List (List ℕ)) (line : List ℕ) (after : List (List ℕ)) (said all : List Line) (what : ScriptFault) → AllZip IsLine (before ++ line ∷ after) all → KeepLimits all → AllZip IsLine before said →
    IsLineFault said line what → ⊥
no_fault before line after said all what lines keep front wrong =
    let cut = cut_said before line after all lines in
    let same = said_one before before said cut.front refl front cut.lines in
    faultless line cut.front cut.here cut.back what cut.is (subst KeepLimits cut.cut keep) (subst (λ (ls : List Line). IsLineFault ls line what) same wrong)

pub fault_is_no_script : FaultIsNoScript
fault_is_no_script bytes what script first is =
    no_fault first.before first.line first.after first.said is.said what (subst (λ (ls : List (List ℕ)). AllZip IsLine ls is.said) first.cut is.lines) is.limits first.lines first.fault

-- of two ways to cut a list the shorter one lies within the longer one
pub longer : {X : Type 0} (a b : List X) (x y : X) (s t : List X) → a ++ x ∷ s ≡ b ++ y ∷ t → length a < length b → (more : List X) × (b ≡ a ++ x ∷ more)
longer [] [] x y s t is less = absurd (omega (arith, less))
longer [] (b ∷ bs) x y s t is less = let heads : x ≡ b = cc in (bs, λ i. sym heads i ∷ bs)
longer (a ∷ as') [] x y s t is less = absurd (omega (arith, less))
longer (a ∷ as') (b ∷ bs) x y s t is less =
    let heads : a ≡ b = cc in
    let tails : as' ++ x ∷ s ≡ bs ++ y ∷ t = cc in
    let rest = longer as' bs x y s t tails (omega (arith, less)) in
    (rest.0, λ i. sym heads i ∷ rest.1 i)

pub alike : {X : Type 0} (a b : List X) (x y : X) (s t : List X) → a ++ x ∷ s ≡ b ++ y ∷ t → length a ≡ length b → (a ≡ b) × (x ≡ y)
alike [] [] x y s t is same = (refl, cc)
alike [] (b ∷ bs) x y s t is same = absurd (omega (arith, same))
alike (a ∷ as') [] x y s t is same = absurd (omega (arith, same))
alike (a ∷ as') (b ∷ bs) x y s t is same =
    let heads : a ≡ b = cc in
    let tails : as' ++ x ∷ s ≡ bs ++ y ∷ t = cc in
    let rest = alike as' bs x y s t tails (omega (arith, same)) in
    (λ i. heads i ∷ rest.0 i, rest.1)

-- of two first faults none stands before the other
not_before : (bytes : List ℕ) (a b : ScriptFault) → (first : IsFirstFault bytes a) (second : IsFirstFault bytes b) → length first.before < length second.before → ⊥
not_before bytes a b first second less =
    let more = longer first.before second.before first.line second.line first.after second.after (sym first.cut ∙ second.cut) less in
    no_fault first.before first.line more.0 first.said second.said a (subst (λ (ls : List (List ℕ)). AllZip IsLine ls second.said) more.1 second.lines) second.limits first.lines first.fault

-- the number of a line whose limit is passed
passed_at : (said : List Line) (x y : Line) (m n : ℕ) → m ≡ length (said ++ x ∷ []) → n ≡ length (said ++ y ∷ []) → m ≡ n
passed_at said x y m n is is' = omega (arith, is, is', length_push said x, length_push said y)

-- behind the same lines a line keeps a limit or passes it
apart : (Keep : List Line → Type 0) (said : List Line) (line : List ℕ) (x y : Line) → IsLine line x → IsLine line y → Keep (said ++ x ∷ []) → (Keep (said ++ y ∷ []) → ⊥) → ⊥
apart Keep said line x y asks asks' keeps passes = passes (subst (λ (l : Line). Keep (said ++ l ∷ [])) (line_one line x y asks asks') keeps)

-- a line has one fault behind what others ask
line_fault_one : (said : List Line) (line : List ℕ) (a b : ScriptFault) → IsLineFault said line a → IsLineFault said line b → a ≡ b
line_fault_one said line fault.Bytes b wrong wrong' = absurd wrong
line_fault_one said line (fault.Rounds m) fault.Bytes wrong wrong' = absurd wrong'
line_fault_one said line (fault.Rounds m) (fault.Rounds n) wrong wrong' = ap fault.Rounds (passed_at said wrong.0 wrong'.0 m n wrong.2.0 wrong'.2.0)
line_fault_one said line (fault.Rounds m) (fault.Calls n) wrong wrong' = absurd (apart HasFewEnds said line wrong'.0 wrong.0 wrong'.1 wrong.1 wrong'.2.1 wrong.2.1)
line_fault_one said line (fault.Rounds m) (fault.Scans n) wrong wrong' = absurd (apart HasFewEnds said line wrong'.0 wrong.0 wrong'.1 wrong.1 wrong'.2.1 wrong.2.1)
line_fault_one said line (fault.Rounds m) (fault.Line n why') wrong wrong' = absurd (asked_none line wrong.0 why' wrong.1 wrong'.1)
line_fault_one said line (fault.Rounds m) fault.NoMemory wrong wrong' = absurd wrong'
line_fault_one said line (fault.Calls m) fault.Bytes wrong wrong' = absurd wrong'
line_fault_one said line (fault.Calls m) (fault.Rounds n) wrong wrong' = absurd (apart HasFewEnds said line wrong.0 wrong'.0 wrong.1 wrong'.1 wrong.2.1 wrong'.2.1)
line_fault_one said line (fault.Calls m) (fault.Calls n) wrong wrong' = ap fault.Calls (passed_at said wrong.0 wrong'.0 m n wrong.2.0 wrong'.2.0)
line_fault_one said line (fault.Calls m) (fault.Scans n) wrong wrong' = absurd (apart HasFewCalls said line wrong'.0 wrong.0 wrong'.1 wrong.1 wrong'.2.2 wrong.2.2)
line_fault_one said line (fault.Calls m) (fault.Line n why') wrong wrong' = absurd (asked_none line wrong.0 why' wrong.1 wrong'.1)
line_fault_one said line (fault.Calls m) fault.NoMemory wrong wrong' = absurd wrong'
line_fault_one said line (fault.Scans m) fault.Bytes wrong wrong' = absurd wrong'
line_fault_one said line (fault.Scans m) (fault.Rounds n) wrong wrong' = absurd (apart HasFewEnds said line wrong.0 wrong'.0 wrong.1 wrong'.1 wrong.2.1 wrong'.2.1)
line_fault_one said line (fault.Scans m) (fault.Calls n) wrong wrong' = absurd (apart HasFewCalls said line wrong.0 wrong'.0 wrong.1 wrong'.1 wrong.2.2 wrong'.2.2)
line_fault_one said line (fault.Scans m) (fault.Scans n) wrong wrong' = ap fault.Scans (passed_at said wrong.0 wrong'.0 m n wrong.2.0 wrong'.2.0)
line_fault_one said line (fault.Scans m) (fault.Line n why') wrong wrong' = absurd (asked_none line wrong.0 why' wrong.1 wrong'.1)
line_fault_one said line (fault.Scans m) fault.NoMemory wrong wrong' = absurd wrong'
line_fault_one said line (fault.Line m why) fault.Bytes wrong wrong' = absurd wrong'
line_fault_one said line (fault.Line m why) (fault.Rounds n) wrong wrong' = absurd (asked_none line wrong'.0 why wrong'.1 wrong.1)
line_fault_one said line (fault.Line m why) (fault.Calls n) wrong wrong' = absurd (asked_none line wrong'.0 why wrong'.1 wrong.1)
line_fault_one said line (fault.Line m why) (fault.Scans n) wrong wrong' = absurd (asked_none line wrong'.0 why wrong'.1 wrong.1)
line_fault_one said line (fault.Line m why) (fault.Line n why') wrong wrong' =
    let numbers : m ≡ n = wrong.0 ∙ sym wrong'.0 in
    let whys = reason_one line why why' wrong.1 wrong'.1 in
    λ i. fault.Line (numbers i) (whys i)
line_fault_one said line (fault.Line m why) fault.NoMemory wrong wrong' = absurd wrong'
line_fault_one said line fault.NoMemory b wrong wrong' = absurd wrong

pub one_fault : IsOneFaultAtMost
one_fault bytes a b first second =
    let same : length first.before ≡ length second.before = omega (arith, not_before bytes a b first second, not_before bytes b a second first) in
    let cut = alike first.before second.before first.line second.line first.after second.after (sym first.cut ∙ second.cut) same in
    let said = said_one first.before second.before first.said second.said cut.0 first.lines second.lines in
    line_fault_one second.said second.line a b (subst (λ (ls : List Line). IsLineFault ls second.line a) said (subst (λ (l : List ℕ). IsLineFault first.said l a) cut.1 first.fault)) second.fault
