-- A whole script: lines that are skipped, limits, configurations, and statements for their nodes.
use Rattle.std.specs.Prelude.{◌≡◌, ◌⊎◌, ◌<◌, ◌^◌, ℕ, suc, Bool, true, false, ◌==◌, ◌||◌, List, []}
use Rattle.std.specs.Prelude.{◌∷◌, ◌++◌, length, map, codes, Option, Some, None, IfSome}
use Rattle.std.specs.Fmt.{decimal}
use Rattle.kv_types.specs.{has}
use Rattle.configurations.specs.NodeLists.{Configurations, at_epoch, last_of, leaves_out}
use Rattle.events.specs.declared.EventKind.{EventKind}
use Rattle.events.specs.{epoch_in}
use Rattle.configurations.specs.Configs.{IsConfig}
use Rattle.events.specs.{NamesNode}
use Rattle.kv_types.specs.declared.LimitName.{LimitName}
use Rattle.script_words.specs.declared.limits.ScriptLimits.{ScriptLimits}
use Rattle.scripts.specs.declared.setup.Setup.{Setup}
use Rattle.scripts.specs.declared.statement.Statement.{Statement}
use Rattle.scripts.specs.declared.statement.Action.{Action}
use Rattle.scripts.specs.declared.statement.Action.TheVariants.{Event, Invalid, Flow, Settle, Show}
use Rattle.scripts.specs.Events.{SpellsEvent}
use Rattle.scripts.specs.Actions.{action_of}
use Rattle.script_words.specs.Limits.{AreLimits, SetsLimit, default_limits, limits_with}
use Rattle.script_words.specs.Lines.{words_of}
use Rattle.events.specs.declared.EventContent.{EventContent}

-- an empty line, or a comment
abbrev pub is_skipped : List ℕ → Bool
is_skipped [] = true
is_skipped (b ∷ bs) = b == 35

-- an action at this line
abbrev pub statement : ℕ → Action → Statement
statement n action = record { line = n; action = action }

-- words name a node of the first of these configurations, which settles or is shown
pub record NamesOneNode (cs : Configurations) (words : List (List ℕ)) (action : Action) : Type 0
  where
    pub node : ℕ
    pub small : node < 2 ^ 63
    pub there : has (at_epoch cs 0) node ≡ true
    pub said : ((action ≡ Settle node) × (words ≡ codes "settle" ∷ decimal node ∷ []))
        ⊎ ((action ≡ Show node) × (words ≡ codes "show" ∷ decimal node ∷ []))

-- words of no event say what a statement comes to
abbrev pub IsOtherStatement : Configurations → List (List ℕ) → Action → Type 0
IsOtherStatement cs words action =
    ((action ≡ Flow) × (words ≡ codes "flow" ∷ [])) ⊎ NamesOneNode cs words action

-- a notice is of one of these configurations
abbrev pub NamesEpoch : Configurations → EventKind → Type 0
NamesEpoch cs kind = IfSome (epoch_in kind) (λ epoch. epoch < length cs)

-- words say what a statement comes to, at nodes of the first of these configurations
abbrev pub IsStatement : Configurations → List (List ℕ) → Action → Type 0
IsStatement cs words action =
    IsOtherStatement cs words action
    ⊎ ((event : EventContent) × SpellsEvent words event × NamesNode cs event.kind
    × NamesEpoch cs event.kind × (action ≡ action_of event))

-- a run has begun with a statement, but not with one that only shows
abbrev pub begins : Action → Bool
begins (Event event) = true
begins (Invalid e) = true
begins Flow = true
begins (Settle node) = true
begins (Show node) = false

-- ids may be the next configuration behind those of earlier lines, if there is one: the one before
-- with at least one node left out, order kept
abbrev pub MayFollow : Option Configurations → List ℕ → Type 0
MayFollow None ids = IsConfig ids
MayFollow (Some cs) ids = IsConfig ids × (leaves_out ids (last_of cs) ≡ true)

-- the configurations up to the line of this one
abbrev pub up_to : Option Configurations → List ℕ → Configurations
up_to None ids = ids ∷ []
up_to (Some cs) ids = cs ++ ids ∷ []

-- lines behind these configurations, the first with number n, where a run has begun or not: each
-- is skipped, or the next configuration before a run begins, or a statement; and all configurations
-- of the script are these
abbrev pub IsBody : Configurations → Bool → ℕ → List (List ℕ) → Configurations → List Statement
    → Type 0
IsBody cs begun n [] all statements = (all ≡ cs) × (statements ≡ [])
IsBody cs begun n (line ∷ lines) all statements =
    ((is_skipped line ≡ true) × IsBody cs begun (suc n) lines all statements)
    ⊎ (((ids : List ℕ) × (words_of line ≡ codes "config" ∷ map decimal ids)
    × MayFollow (Some cs) ids × (begun ≡ false)
    × IsBody (up_to (Some cs) ids) begun (suc n) lines all statements)
    ⊎ ((action : Action) × (rest : List Statement) × IsStatement cs (words_of line) action
    × (statements ≡ statement n action ∷ rest)
    × IsBody cs (begun || begins action) (suc n) lines all rest))

-- a script that sets up these configurations, with these limits
pub record SetsUp (setup : Setup) (script : ScriptLimits) (cs : Configurations) : Type 0 where
  pub configs : setup.configs ≡ cs
  pub limits : AreLimits script setup.limits

-- lines that are a script, the first with number n, behind lines that set these limits:
-- skipped ones and limits, then a configuration, then what may stand behind it
abbrev pub IsScriptWith : ScriptLimits → ℕ → List (List ℕ) → Setup → List Statement → Type 0
IsScriptWith limits n [] setup statements = ⊥
IsScriptWith limits n (line ∷ lines) setup statements =
    ((is_skipped line ≡ true) × IsScriptWith limits (suc n) lines setup statements)
    ⊎ (((name : LimitName) × (number : ℕ) × SetsLimit (words_of line) name number
    × IsScriptWith (limits_with limits name number) (suc n) lines setup statements)
    ⊎ ((ids : List ℕ) × (all : Configurations) × (words_of line ≡ codes "config" ∷ map decimal ids)
    × MayFollow None ids × SetsUp setup limits all
    × IsBody (up_to None ids) false (suc n) lines all statements))

-- lines that are a script, the first with number n, where no limit has been set
abbrev pub IsScript : ℕ → List (List ℕ) → Setup → List Statement → Type 0
IsScript = IsScriptWith default_limits

-- a statement names a node of the first configuration, if it names one
abbrev pub Names : Configurations → Action → Type 0
Names cs (Event event) = NamesNode cs event.kind
Names cs (Invalid e) = Unit {0}
Names cs Flow = Unit {0}
Names cs (Settle node) = has (at_epoch cs 0) node ≡ true
Names cs (Show node) = has (at_epoch cs 0) node ≡ true
