-- From a walk through a function's code to the contract of its entry.
use seplogic.Ra.Ura.{Ura}
use mir.Syntax.{Fn}
use prog.Model.{Model}
use prog.Routine.{Callee}
use prog.Wp.{WpFn, Tables, Closed}
use types.Logic.{Logic}
use contract.Running.{Running, tables, tables_of}
use denote.Triple.Statement.{Contract, Triple}
use denote.Triple.Table.{entered}

-- an entry keeps the contract that its code keeps by all tables
pub entered_by : {M : Type 1} (𝓤 : Ura M) (𝓛 : Logic 𝓤) (𝓜 : Model 𝓤 𝓛.H) (𝓡 : Running 𝓤 𝓛.H 𝓜) (k : Callee) (e : Fn) (c : Contract 𝓤)
    → Closed 𝓤 𝓛.H (tables 𝓤 𝓛.H 𝓜 𝓡 𝓡.env).C (tables 𝓤 𝓛.H 𝓜 𝓡 𝓡.env).Λ k e → ((𝓣 : Tables 𝓤 𝓛.H) → Triple 𝓤 (WpFn 𝓤 𝓛.H 𝓣.C 𝓣.Λ e) c)
    → Triple 𝓤 ((tables 𝓤 𝓛.H 𝓜 𝓡 𝓡.env).C k) c
unfolding tables_of
entered_by 𝓤 𝓛 𝓜 𝓡 k e c closed meets =
    entered 𝓤 𝓛.H c (tables 𝓤 𝓛.H 𝓜 𝓡 𝓡.env).C (tables 𝓤 𝓛.H 𝓜 𝓡 𝓡.env).Λ k e closed (meets (tables_of 𝓤 𝓛.H 𝓜 (tables 𝓤 𝓛.H 𝓜 𝓡 𝓡.env)))
