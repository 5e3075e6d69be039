use Rattle.data_list.proofs.Comings.{first_comes, each_comes, comes_once, comes_soon}
use Rattle.data_list.proofs.StillWalk.{begins_on_way, walks_come_there, walks_answer}
use Rattle.data_list.proofs.laws.walks_come_there.Goals as goal

pub returns-clause-first : goal.returns-clause-first
returns-clause-first c = first_comes

pub returns-clause-each : goal.returns-clause-each
returns-clause-each c = each_comes

pub returns-clause-once : goal.returns-clause-once
returns-clause-once c = comes_once

pub returns-clause-soon : goal.returns-clause-soon
returns-clause-soon c = comes_soon

pub returns-clause-begins : goal.returns-clause-begins
returns-clause-begins c = begins_on_way

pub returns-clause-goes : goal.returns-clause-goes
returns-clause-goes c = walks_come_there

pub returns-clause-answers : goal.returns-clause-answers
returns-clause-answers c = walks_answer
