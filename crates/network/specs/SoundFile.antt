-- A network file that was judged.
use Rattle.std.specs.Prelude.{ℕ, ◌≡◌, List, Result, Ok, Err}
use Rattle.answer.specs.declared.Refusal.{Refusal}
use Rattle.network.specs.Network.{of_file}
use Rattle.network.specs.Answers.{network_found}
use Rattle.network.specs.declared.sound_file.SoundFile.{SoundFile}

-- a file that is handed on is these bytes (that it is sound goes with it); where none is, this is why they are refused
abbrev pub Told : List ℕ → Result SoundFile Refusal → Type 0
Told s (Ok file) = file.net.now ≡ s
Told s (Err why) = network_found (of_file s) ≡ Err why
