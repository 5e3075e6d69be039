use Rattle.std.proofs.Common.{subst, ◌<◌, sym}
use Rattle.recovery.specs.index_core.specs.Indexes.{Index}
use Rattle.core_rounds.specs.CoreMaps.{Waits, calls_left_of}
use Rattle.core_rounds.specs.Updated.{WaitOn}
use Rattle.core_rounds.proofs.CoreMaps.{same_of, uses_of}
use Rattle.core_rounds.proofs.core_map.CoreMapUpdatedMap.part.Goals as goal

pub returns-in_err-listed_pairs-clause-same : goal.returns-in_err-listed_pairs-clause-same
returns-in_err-listed_pairs-clause-same g c = same_of c.self.inside.core _ c.list_alone-words.new.core c.self.view_is c.list_alone-words.ensures.same

pub returns-clause-same : goal.returns-clause-same
returns-clause-same g c = same_of c.self.inside.core _ c.list_alone-words.new.core c.self.view_is c.list_alone-words.ensures.same

pub returns-in_err-listed_pairs-clause-uses : goal.returns-in_err-listed_pairs-clause-uses
returns-in_err-listed_pairs-clause-uses g c = uses_of c.self.inside.core _ c.list_alone-words.new.core c.self.view_is c.list_alone-words.ensures.quiet

pub returns-clause-uses : goal.returns-clause-uses
returns-clause-uses g c = uses_of c.self.inside.core _ c.list_alone-words.new.core c.self.view_is c.list_alone-words.ensures.quiet

pub returns-in_err-listed_pairs-clause-waits : goal.returns-in_err-listed_pairs-clause-waits
returns-in_err-listed_pairs-clause-waits g c = subst (λ (s : Index). WaitOn (Waits s) (Waits c.list_alone-words.new.core)) c.self.view_is c.list_alone-words.ensures.waits

pub returns-clause-waits : goal.returns-clause-waits
returns-clause-waits g c = subst (λ (s : Index). WaitOn (Waits s) (Waits c.list_alone-words.new.core)) c.self.view_is c.list_alone-words.ensures.waits

pub list_alone-words-requires-clause-index : goal.list_alone-words-requires-clause-index
list_alone-words-requires-clause-index g c = c.self.invariant.0.index

pub list_alone-words-requires-clause-quiet : goal.list_alone-words-requires-clause-quiet
list_alone-words-requires-clause-quiet g c = c.self.invariant.0.quiet

pub list_alone-words-requires-clause-caller : goal.list_alone-words-requires-clause-caller
list_alone-words-requires-clause-caller g c = subst (λ (s : Index). c.args.caller < s.layout.callers) (sym c.self.view_is) c.requires.caller

pub list_alone-words-requires-clause-calls_left : goal.list_alone-words-requires-clause-calls_left
list_alone-words-requires-clause-calls_left g c = subst (λ (s : Index). 0 < calls_left_of s) (sym c.self.view_is) c.requires.calls
