-- What the C functions for the release and for the fields of a record promise, whatever the pool and the place. Definitions only.
use Rattle.std.specs.Prelude.{ℕ, ◌≡◌, refl, List}
use Rattle.std.specs.Borrow.{Bor}
use contract.Lifetimes.{Lfts}
use Rattle.records.specs.declared.Device.{Device}
use Rattle.records.specs.declared.DeviceElement.{DeviceElement}
use Rattle.records.specs.declared.ProcessData.{ProcessData}
use Rattle.records.specs.declared.Property.{Property}
use Rattle.records.specs.declared.ValuePresentation.{ValuePresentation}
use Rattle.views.specs.Fields.{device_of, element_of, entry_of, process_data_of, property_of, presentation_of}
use Rattle.book.specs.Says.{Claim, Says}
use Rattle.terminal.specs.contracts.lachsbrille_version as version-c
use Rattle.terminal.specs.contracts.objects.lachsbrille_read_device as device-c
use Rattle.terminal.specs.contracts.objects.lachsbrille_read_element as element-c
use Rattle.terminal.specs.contracts.objects.lachsbrille_read_entry as entry-c
use Rattle.terminal.specs.contracts.objects.lachsbrille_read_process_data as data-c
use Rattle.terminal.specs.contracts.objects.lachsbrille_read_property as property-c
use Rattle.terminal.specs.contracts.objects.lachsbrille_read_presentation as presentation-c

-- Below, each contract is given by its own text, and `refl` checks that this is the whole contract: no function asks anything of its
-- caller, and no clause can be left out.

-- what the contract of `lachsbrille_version` says
abbrev pub version_says : Says version-c.ended (λ M 𝓤 𝓛. version-c.clauses 𝓛)
version_says = record { Learnt = _; exact = λ w. refl }

abbrev pub version_promises : Claim version-c.ended
version_promises = version_says.Learnt

-- what the contract of `lachsbrille_read_device` says
abbrev pub device_says : Says device-c.ended (λ M 𝓤 𝓛. device-c.clauses 𝓛)
device_says = record { Learnt = _; exact = λ w. refl }

abbrev pub device_promises : Claim device-c.ended
device_promises = device_says.Learnt

-- what the contract of `lachsbrille_read_element` says
abbrev pub element_says : Says element-c.ended (λ M 𝓤 𝓛. element-c.clauses 𝓛)
element_says = record { Learnt = _; exact = λ w. refl }

abbrev pub element_promises : Claim element-c.ended
element_promises = element_says.Learnt

-- what the contract of `lachsbrille_read_entry` says
abbrev pub entry_says : Says entry-c.ended (λ M 𝓤 𝓛. entry-c.clauses 𝓛)
entry_says = record { Learnt = _; exact = λ w. refl }

abbrev pub entry_promises : Claim entry-c.ended
entry_promises = entry_says.Learnt

-- what the contract of `lachsbrille_read_process_data` says
abbrev pub data_says : Says data-c.ended (λ M 𝓤 𝓛. data-c.clauses 𝓛)
data_says = record { Learnt = _; exact = λ w. refl }

abbrev pub data_promises : Claim data-c.ended
data_promises = data_says.Learnt

-- what the contract of `lachsbrille_read_property` says
abbrev pub property_says : Says property-c.ended (λ M 𝓤 𝓛. property-c.clauses 𝓛)
property_says = record { Learnt = _; exact = λ w. refl }

abbrev pub property_promises : Claim property-c.ended
property_promises = property_says.Learnt

-- what the contract of `lachsbrille_read_presentation` says
abbrev pub presentation_says : Says presentation-c.ended (λ M 𝓤 𝓛. presentation-c.clauses 𝓛)
presentation_says = record { Learnt = _; exact = λ w. refl }

abbrev pub presentation_promises : Claim presentation-c.ended
presentation_promises = presentation_says.Learnt

-- for all arguments: the release, and the fields of a record from any start
pub record ObjectsRead : Type 0 where
  pub version : (κs : Lfts 0) (r : ℕ) → version_promises κs tt r tt → r ≡ 20000
  pub device : (κs : Lfts 1) (p : Bor (List ℕ)) (start : ℕ) (r : Device) → device_promises κs (p, (start, tt)) r (p, (start, tt)) → r ≡ device_of p.now start
  pub element : (κs : Lfts 1) (p : Bor (List ℕ)) (start : ℕ) (r : DeviceElement) → element_promises κs (p, (start, tt)) r (p, (start, tt)) → r ≡ element_of p.now start
  pub entry : (κs : Lfts 1) (p : Bor (List ℕ)) (start n : ℕ) (r : ℕ) → entry_promises κs (p, (start, (n, tt))) r (p, (start, (n, tt))) → r ≡ entry_of p.now start n
  pub process_data : (κs : Lfts 1) (p : Bor (List ℕ)) (start : ℕ) (r : ProcessData) → data_promises κs (p, (start, tt)) r (p, (start, tt)) → r ≡ process_data_of p.now start
  pub property : (κs : Lfts 1) (p : Bor (List ℕ)) (start : ℕ) (r : Property) → property_promises κs (p, (start, tt)) r (p, (start, tt)) → r ≡ property_of p.now start
  pub presentation : (κs : Lfts 1) (p : Bor (List ℕ)) (start : ℕ) (r : ValuePresentation) → presentation_promises κs (p, (start, tt)) r (p, (start, tt)) → r ≡ presentation_of p.now start
