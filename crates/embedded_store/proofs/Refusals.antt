-- Refusals of an opening, by the errors of the layers below.
use Rattle.std.proofs.Common.{◌≡◌, ap, inl, inr, refl, subst, sym, ◌∙◌}
use Rattle.std.specs.Prelude.{◌↔◌}
use Rattle.disk.specs.declared.error.DiskError.{DiskError}
use Rattle.disk.specs.declared.error.DiskError.TheVariants as device
use Rattle.disk.specs.{Contents, IsEnvironmental, State}
use Rattle.engine.specs.EngineError.{EngineError}
use Rattle.engine.specs.EngineError.TheVariants as engine
use Rattle.engine.specs.{ExplainsRefusal, IsOpeningError}
use Rattle.embedded_store.specs.declared.error.OpenError.{OpenError}
use Rattle.embedded_store.specs.declared.error.OpenError.TheVariants.{OfChain, Store}
use Rattle.embedded_store.specs.Errors.{disk_refusal}
use Rattle.manifest.specs.{HasOnlyCreationFiles, OldStoresAreApart, WasCutShort}
use Rattle.embedded_store.specs.Openings.{ExplainsOpening, IsOfDisk, IsOfEnvironment}
use Rattle.embedded_store.specs.Openings.{IsOfNoStore}

-- a refusal of the engine is for the device exactly where its cause is
pub store_told : (e : EngineError) (s : OpenError) → s ≡ Store e →
    (e ≡ engine.Disk) ↔ (s ≡ Store engine.Disk)
store_told e s is = (λ fails. is ∙ ap Store fails, λ fails. cc)

-- so is one of a look
pub look_told : (e : DiskError) (s : OpenError) → s ≡ disk_refusal e →
    (e ≡ device.Failed) ↔ (s ≡ Store engine.Disk)
look_told device.Failed s is = (λ fails. is, λ fails. refl)
look_told device.NoFile s is = (λ fails. cc, λ fails. cc)
look_told device.Short s is = (λ fails. cc, λ fails. cc)
look_told device.Memory s is = (λ fails. cc, λ fails. cc)

-- an external refusal of the engine is one of the opening
pub store_external : (e : EngineError) (s : OpenError) → s ≡ Store e →
    IsEnvironmental engine.Disk engine.Memory e → IsOfEnvironment s
store_external e s is (inl device) = inl (is ∙ ap Store device)
store_external e s is (inr memory) = inr (is ∙ ap Store memory)

-- so is one of a look
pub look_external : (e : DiskError) (s : OpenError) → s ≡ disk_refusal e →
    IsEnvironmental device.Failed device.Memory e → IsOfEnvironment s
look_external e s is (inl failed) = inl (is ∙ ap disk_refusal failed)
look_external e s is (inr memory) = inr (is ∙ ap disk_refusal memory)

-- of any disk, why an engine was not opened is why there is no store
pub opening_refuses : (e : EngineError) (s : OpenError) → s ≡ Store e → IsOpeningError e →
    IsOfDisk s
opening_refuses e s is (inr (inl same)) = inr (inr (inr (inl (is ∙ ap Store same))))
opening_refuses e s is (inr (inr same)) = inr (inr (inr (inr (is ∙ ap Store same))))
opening_refuses engine.Disk s is (inl ends) = inr (inl (inl is))
opening_refuses engine.Memory s is (inl ends) = inr (inl (inr is))
opening_refuses engine.Damaged s is (inl ends) = inr (inr (inl is))
opening_refuses _ s is (inl ends) = absurd ends

-- so is one of a look
pub look_refuses : (e : DiskError) (s : OpenError) → s ≡ disk_refusal e → IsOfDisk s
look_refuses device.Failed s is = inr (inl (inl is))
look_refuses device.NoFile s is = inr (inr (inl is))
look_refuses device.Short s is = inr (inr (inl is))
look_refuses device.Memory s is = inr (inl (inr is))

-- an external refusal says nothing of the files
pub external_explains : (left : Contents) (now : State) (s : OpenError) → IsOfEnvironment s →
    ExplainsOpening left now s
external_explains left now s (inl device) = subst (ExplainsOpening left now) (sym device) tt
external_explains left now s (inr memory) = subst (ExplainsOpening left now) (sym memory) tt

-- what the engine explains, the opening does, where nothing is created
pub explained : (left : Contents) (now : State) (e : EngineError) → ExplainsRefusal e left →
    (e ≡ engine.NotCreated → HasOnlyCreationFiles left → ⊥) → ExplainsOpening left now (Store e)
explained left now engine.Disk why taken = tt
explained left now engine.Damaged why taken = why
explained left now engine.Memory why taken = tt
explained left now engine.NotCreated why taken = (why, taken refl)
explained left now engine.OldFormat why taken = why
explained left now _ why taken = absurd why

-- and where a creation was cut short, it is refused for the environment alone
pub refused_externally : OldStoresAreApart → (left : Contents) (e : EngineError) →
    ExplainsRefusal e left → (e ≡ engine.NotCreated → HasOnlyCreationFiles left → ⊥) →
    WasCutShort left → IsEnvironmental engine.Disk engine.Memory e
refused_externally apart left engine.Disk why taken cut = inl refl
refused_externally apart left engine.Damaged why taken cut = absurd (why.created cut.0)
refused_externally apart left engine.Memory why taken cut = inr refl
refused_externally apart left engine.NotCreated why taken cut = absurd (taken refl cut.1)
refused_externally apart left engine.OldFormat why taken cut = absurd ((apart left why).0 cut.0)
refused_externally apart left _ why taken cut = absurd why

-- a store that was not created is not refused for the environment
pub not_external : (e : EngineError) → e ≡ engine.NotCreated →
    IsEnvironmental engine.Disk engine.Memory e → ⊥
not_external e is (inl device) = cc
not_external e is (inr memory) = cc

-- ---- refusals for files

-- the refusal of a chain's store is not for files that are none
pub chain_is_store : (s : OpenError) → s ≡ OfChain → IsOfNoStore s → ⊥
chain_is_store s is (inl damaged) = cc
chain_is_store s is (inr (inl none)) = cc
chain_is_store s is (inr (inr old)) = cc

-- nor is one for the device or for memory
pub external_is_store : (s : OpenError) → IsOfEnvironment s → IsOfNoStore s → ⊥
external_is_store s (inl device) (inl damaged) = cc
external_is_store s (inl device) (inr (inl none)) = cc
external_is_store s (inl device) (inr (inr old)) = cc
external_is_store s (inr memory) (inl damaged) = cc
external_is_store s (inr memory) (inr (inl none)) = cc
external_is_store s (inr memory) (inr (inr old)) = cc

-- and the engine's for such files is for neither
pub files_not_external : (e : EngineError) (s : OpenError) → s ≡ Store e → IsOfNoStore s →
    IsEnvironmental engine.Disk engine.Memory e → ⊥
files_not_external e s is none why = external_is_store s (store_external e s is why) none
