mod AloneLines
mod GuardPrinting
mod GuardedLines
mod Listings
mod SwitchedLines
