mod FewerMade
mod NamedKind
mod NamedDumps
mod Answering
mod AskingStored
