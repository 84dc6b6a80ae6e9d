-- A call that may want memory.
use Rattle.std.specs.Prelude.{◌≡◌, ◌⊎◌, ℕ, List, Result, Ok, Err, MatchResult}
use Rattle.script_text.specs.declared.fault.LineFault.{LineFault}
use Rattle.script_text.specs.declared.fault.LineFault.TheVariants.{NoMemory}

-- what was made, with its output, stands for what is meant; or memory was wanted, or the fault is the one that is meant
abbrev pub Meets : {T V : Type 0} → (T → V → Type 0) → Result (V × List ℕ) LineFault → Result T LineFault → List ℕ → Type 0
Meets {T} {V} stands meant result text =
    MatchResult result (λ made. (behind : V) × (meant ≡ Ok (behind, text)) × stands made behind)
    (λ fault. (fault ≡ NoMemory) ⊎ (meant ≡ Err fault))

-- the same of a call that leaves what was made in place
abbrev pub MeetsInPlace : {T V : Type 0} → (T → V → Type 0) → Result (V × List ℕ) LineFault → Result (Unit {0}) LineFault → T → List ℕ → Type 0
MeetsInPlace {T} {V} stands meant result now text =
    MatchResult result (λ _. (behind : V) × (meant ≡ Ok (behind, text)) × stands now behind)
    (λ fault. (fault ≡ NoMemory) ⊎ (meant ≡ Err fault))
