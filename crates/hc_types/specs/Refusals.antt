-- The numbers and names of the refusals.
use Rattle.std.specs.Prelude.{ℕ, List, ◌++◌, codes}
use Rattle.std.specs.Fmt.{decimal}
use Rattle.hc_types.specs.declared.refusal.Refusal.{Refusal}
use Rattle.hc_types.specs.declared.refusal.Refusal.TheVariants.{KeyEmpty, KeyTooLong, BadPool, BadPage, BadBuckets, BadRegions, BadSmallMax, BadQueue, BadBits, NoCleanRegion, TooLarge, OutOfItem, NoPool, ValueTooLong, NoRoom, ForeignHandle, Exists, UnknownCall, NotReady, UnknownJob, NoMemory, TooManyClients, BadShards, WrongShard}

abbrev pub number_of : Refusal → ℕ
number_of KeyEmpty = 1
number_of KeyTooLong = 2
number_of BadPool = 3
number_of BadPage = 4
number_of BadBuckets = 5
number_of BadRegions = 6
number_of BadSmallMax = 7
number_of BadQueue = 8
number_of BadBits = 9
number_of NoCleanRegion = 10
number_of TooLarge = 11
number_of OutOfItem = 12
number_of NoPool = 13
number_of ValueTooLong = 14
number_of NoRoom = 15
number_of ForeignHandle = 16
number_of Exists = 17
number_of UnknownCall = 19
number_of NotReady = 20
number_of UnknownJob = 21
number_of NoMemory = 22
number_of TooManyClients = 23
number_of BadShards = 24
number_of WrongShard = 25

abbrev pub name_of : Refusal → List ℕ
name_of KeyEmpty = codes "KeyEmpty"
name_of KeyTooLong = codes "KeyTooLong"
name_of BadPool = codes "BadPool"
name_of BadPage = codes "BadPage"
name_of BadBuckets = codes "BadBuckets"
name_of BadRegions = codes "BadRegions"
name_of BadSmallMax = codes "BadSmallMax"
name_of BadQueue = codes "BadQueue"
name_of BadBits = codes "BadBits"
name_of NoCleanRegion = codes "NoCleanRegion"
name_of TooLarge = codes "TooLarge"
name_of OutOfItem = codes "OutOfItem"
name_of NoPool = codes "NoPool"
name_of ValueTooLong = codes "ValueTooLong"
name_of NoRoom = codes "NoRoom"
name_of ForeignHandle = codes "ForeignHandle"
name_of Exists = codes "Exists"
name_of UnknownCall = codes "UnknownCall"
name_of NotReady = codes "NotReady"
name_of UnknownJob = codes "UnknownJob"
name_of NoMemory = codes "NoMemory"
name_of TooManyClients = codes "TooManyClients"
name_of BadShards = codes "BadShards"
name_of WrongShard = codes "WrongShard"

-- how a refusal is printed
abbrev pub refusal_text : Refusal → List ℕ
refusal_text refusal = codes "refused " ++ decimal (number_of refusal) ++ codes " " ++ name_of refusal
