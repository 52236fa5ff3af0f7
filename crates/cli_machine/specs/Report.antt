-- The printed report of how a session ended.
use Rattle.std.specs.Prelude.{ℕ, List, [], ◌∷◌, ◌++◌, codes, decimal}
use Rattle.line_text.specs.Kinds.{file_text, key_word}
use Rattle.line_text.specs.declared.kinds.FileName.{FileName}
use Rattle.noise_bound.specs.Text.{text_of}
use Rattle.he_files.specs.declared.headers.Header.{Header}
use Rattle.table_file.specs.declared.faults.TableFault.{TableFault}
use Rattle.table_file.specs.declared.faults.TableFault.TheVariants as check
use Rattle.cli_machine.specs.declared.cause.Cause.{Cause}
use Rattle.cli_machine.specs.declared.cause.Cause.TheVariants.{Words, NoFile, NameTaken, BadTable, BadSlots, BadProgram, BadSeed, BadTemplate, BadKey, BadCipher, NoRoot, Arity, WrongKey, TooNoisy, NoChain, ShelfFault, SinkFault, Memory}
use Rattle.cli_machine.specs.declared.cause.Status.{Status}
use Rattle.cli_machine.specs.declared.cause.Status.TheVariants.{Done, Stopped}

-- a word and a number
abbrev pub numbered : List ℕ → ℕ → List ℕ
numbered word i = word ++ decimal i

-- a word and two numbers
abbrev pub paired : List ℕ → ℕ → ℕ → List ℕ
paired word i j = word ++ decimal i ++ codes " " ++ decimal j

-- a word, the name of a file, and a place in it
abbrev pub placed : List ℕ → FileName → ℕ → List ℕ
placed word file place = word ++ file_text file ++ codes " " ++ decimal place

-- the names of a table and of a key, as `a/k`
abbrev pub header_text : Header → List ℕ
header_text header = header.table ++ codes "/" ++ header.key

-- the name of a check, and its key or places, each after a space
unfoldable pub fault_text : TableFault → List ℕ
fault_text check.Text = codes "Text"
fault_text (check.Shape key) = codes "Shape " ++ key_word key
fault_text check.Weight = codes "Weight"
fault_text check.NotOrder = codes "NotOrder"
fault_text (check.NotPower i) = numbered (codes "NotPower ") i
fault_text check.WrongCount = codes "WrongCount"
fault_text (check.NotDistinct a b) = paired (codes "NotDistinct ") a b
fault_text check.Tall = codes "Tall"
fault_text check.NotFrobenius = codes "NotFrobenius"
fault_text check.NotDivisor = codes "NotDivisor"
fault_text (check.Idempotent slot) = numbered (codes "Idempotent ") slot
fault_text check.NotAnnihilated = codes "NotAnnihilated"
fault_text check.NotComplete = codes "NotComplete"
fault_text (check.Dual i k) = paired (codes "Dual ") i k
fault_text (check.Size i) = numbered (codes "Size ") i
fault_text (check.Residue i) = numbered (codes "Residue ") i
fault_text (check.HalfRoot i) = numbered (codes "HalfRoot ") i
fault_text (check.Root i) = numbered (codes "Root ") i
fault_text (check.TwoRoot i) = numbered (codes "TwoRoot ") i
fault_text (check.Inverse i j) = paired (codes "Inverse ") i j
fault_text (check.PlainInverse i) = numbered (codes "PlainInverse ") i
fault_text check.Memory = codes "Memory"

-- the name of a cause, and its fields, each after a space
unfoldable pub cause_text : Cause → List ℕ
cause_text Words = codes "Words"
cause_text (NoFile file) = codes "NoFile " ++ file_text file
cause_text (NameTaken file) = codes "NameTaken " ++ file_text file
cause_text (BadTable fault) = codes "BadTable " ++ fault_text fault
cause_text (BadSlots line) = numbered (codes "BadSlots ") line
cause_text (BadProgram line) = numbered (codes "BadProgram ") line
cause_text BadSeed = codes "BadSeed"
cause_text (BadTemplate key) = codes "BadTemplate " ++ key_word key
cause_text (BadKey file place) = placed (codes "BadKey ") file place
cause_text (BadCipher file place) = placed (codes "BadCipher ") file place
cause_text (NoRoot i) = numbered (codes "NoRoot ") i
cause_text (Arity given named) = paired (codes "Arity ") given named
cause_text (WrongKey want got) = codes "WrongKey " ++ header_text want ++ codes " " ++ header_text got
cause_text (TooNoisy line bound limit) = numbered (codes "TooNoisy ") line ++ codes " " ++ text_of bound ++ codes " " ++ text_of limit
cause_text (NoChain file) = codes "NoChain " ++ file_text file
cause_text (ShelfFault faults) = numbered (codes "ShelfFault ") faults
cause_text (SinkFault faults) = numbered (codes "SinkFault ") faults
cause_text Memory = codes "Memory"

-- `stopped`, the line and the cause, and a newline; nothing where all is done
unfoldable pub report_of : Status → List ℕ
report_of Done = []
report_of (Stopped line cause) = codes "stopped " ++ decimal line ++ codes " " ++ cause_text cause ++ 10 ∷ []

-- the exit status: the number of the cause, 0 where all is done
abbrev pub number_of : Status → ℕ
number_of Done = 0
number_of (Stopped line Words) = 2
number_of (Stopped line (NoFile file)) = 3
number_of (Stopped line (NameTaken file)) = 4
number_of (Stopped line (BadTable fault)) = 5
number_of (Stopped line (BadSlots bad)) = 6
number_of (Stopped line (BadProgram bad)) = 7
number_of (Stopped line BadSeed) = 8
number_of (Stopped line (BadTemplate key)) = 9
number_of (Stopped line (BadKey file place)) = 10
number_of (Stopped line (BadCipher file place)) = 11
number_of (Stopped line (NoRoot i)) = 12
number_of (Stopped line (Arity given named)) = 14
number_of (Stopped line (WrongKey want got)) = 15
number_of (Stopped line (TooNoisy bad bound limit)) = 18
number_of (Stopped line (NoChain file)) = 21
number_of (Stopped line (ShelfFault faults)) = 30
number_of (Stopped line (SinkFault faults)) = 31
number_of (Stopped line Memory) = 40
