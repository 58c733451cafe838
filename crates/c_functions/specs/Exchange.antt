-- What the C functions for messages and the displayed value promise. Definitions only.
use Rattle.std.specs.Prelude.{ℕ, ◌≡◌, refl, List, ℤ, Float, length}
use denote.Bor.{Bor}
use denote.MutBor.{MutBor, at_last}
use contract.Lifetimes.{Lfts}
use Rattle.messages.specs.Reading.{read_of}
use Rattle.messages.specs.Writing.{value_refusal, value_after, acknowledge_refusal, acknowledge_after}
use Rattle.c_answers.specs.Exchange.{fields_in}
use Rattle.c_answers.specs.declared.MessageFields.{MessageFields}
use Rattle.terminal.specs.Display.{Shows, presented}
use Rattle.book.specs.Says.{Claim, Says}
use Rattle.terminal.specs.contracts.exchange.lachsbrille_message_read as message-c
use Rattle.terminal.specs.contracts.exchange.lachsbrille_message_write_value as value-c
use Rattle.terminal.specs.contracts.exchange.lachsbrille_message_write_acknowledge as acknowledge-c
use Rattle.terminal.specs.contracts.display.lachsbrille_displayed as displayed-c

-- Below, each contract is given by its own text, and `refl` checks that this is the whole contract: no function asks anything of its
-- caller, and no clause can be left out.

-- what the contract of `lachsbrille_message_read` says
abbrev pub message_says : Says message-c.ended (λ M 𝓤 𝓛. message-c.clauses 𝓛)
message_says = record { Learnt = _; exact = λ w. refl }

abbrev pub message_promises : Claim message-c.ended
message_promises = message_says.Learnt

-- what the contract of `lachsbrille_message_write_value` says
abbrev pub value_says : Says value-c.ended (λ M 𝓤 𝓛. value-c.clauses 𝓛)
value_says = record { Learnt = _; exact = λ w. refl }

abbrev pub value_promises : Claim value-c.ended
value_promises = value_says.Learnt

-- what the contract of `lachsbrille_message_write_acknowledge` says
abbrev pub acknowledge_says : Says acknowledge-c.ended (λ M 𝓤 𝓛. acknowledge-c.clauses 𝓛)
acknowledge_says = record { Learnt = _; exact = λ w. refl }

abbrev pub acknowledge_promises : Claim acknowledge-c.ended
acknowledge_promises = acknowledge_says.Learnt

-- what the contract of `lachsbrille_displayed` says
abbrev pub displayed_says : Says displayed-c.ended (λ M 𝓤 𝓛. displayed-c.clauses 𝓛)
displayed_says = record { Learnt = _; exact = λ w. refl }

abbrev pub displayed_promises : Claim displayed-c.ended
displayed_promises = displayed_says.Learnt

-- for all arguments: messages are read and written, and values displayed, as the definitions say, which also give the lent memory
pub record MessagesExchanged : Type 0 where
  pub read : (κs : Lfts 1) (s : Bor (List ℕ)) (r : MessageFields) → message_promises κs (s, tt) r (s, tt) → fields_in r ≡ read_of s.now
  pub value : (κs : Lfts 1) (to : MutBor (List ℕ)) (command element ddi : ℕ) (value : ℤ) (r : ℕ) (to' : List ℕ)
      → value_promises κs (to, (command, (element, (ddi, (value, tt))))) r (at_last to to', (command, (element, (ddi, (value, tt)))))
      → (r ≡ value_refusal command element (length to.now)) × (to' ≡ value_after to.now command element ddi value)
  pub acknowledge : (κs : Lfts 1) (to : MutBor (List ℕ)) (element ddi errors answered : ℕ) (r : ℕ) (to' : List ℕ)
      → acknowledge_promises κs (to, (element, (ddi, (errors, (answered, tt))))) r (at_last to to', (element, (ddi, (errors, (answered, tt)))))
      → (r ≡ acknowledge_refusal element answered (length to.now)) × (to' ≡ acknowledge_after to.now element ddi errors answered)
  pub displayed : (κs : Lfts 1) (value offset : ℤ) (scale : Float) (decimals : ℕ) (x : MutBor Float) (r : ℕ) (x' : Float)
      → displayed_promises κs (value, (offset, (scale, (decimals, (x, tt))))) r (value, (offset, (scale, (decimals, (at_last x x', tt)))))
      → Shows value (presented offset scale decimals) r x'
