mod Reached
mod OneWorld
mod OneText
mod LegalRuns
mod SafeRuns
mod Headers
mod Words
